-- A class list is complete: it joins all equivalent circuits within its limits.
use Rattle.std.proofs.Common.{◌≡◌, ℕ, zero, suc, ◌<◌, true, List, ◌++◌, map, length, inl, inr, refl, sym, subst, arith}
use Rattle.std.specs.Prelude.{Contains}
use Rattle.qz_circ.specs.Circuit.{Circuit, Limits, Within}
use Rattle.qz_circ.specs.Bounds.{IsLawful}
use Rattle.qz_circ.specs.Equivalence.{Equivalent}
use Rattle.qz_circ.specs.Order.{is_before, rank, circuit_at}
use Rattle.qz_circ.specs.Classes.{IsRepresentative, IsClassList}
use Rattle.qz_circ.specs.Joined.{circuits_of_ranks, Step, JoinsEquivalent}
use Rattle.qz_circ.proofs.CircuitPlaces.{Contains-map}
use Rattle.qz_circ.proofs.RankLemmas.{before_by_rank, circuit_at-rank}
use Rattle.qz_paths.proofs.Equivalences.{reflexive, symmetric, transitive}
use Rattle.qz_paths.proofs.Parts.{within-replaced, before_not_longer, before-replaced, equivalent-replaced}
use Rattle.qz_paths.proofs.Least.{kept_part}
use Rattle.qz_paths.proofs.Chains.{Linked, linked_itself, linked_first, linked_on, joined_from_linked, step_back}
use Rattle.qz_paths.proofs.ClassesFound.{ClassOf, known, has_class, same_representative}

-- one step by the classes leads from c to d, an earlier equivalent circuit within the limits
pub record Earlier (b : Limits) (classes : List (List ℕ)) (c d : Circuit) : Type 0 where
  pub within : Within b d
  pub before : is_before d c ≡ true
  pub equivalent : Equivalent b.q d c
  pub step : Step (circuits_of_ranks b classes) c d

-- steps by the classes lead to an equivalent representative and back
record Reduced (b : Limits) (classes : List (List ℕ)) (c : Circuit) : Type 0 where
  representative : Circuit
  least : IsRepresentative b representative
  equivalent : Equivalent b.q representative c
  there : Linked (Step (circuits_of_ranks b classes)) b.n c representative
  back : Linked (Step (circuits_of_ranks b classes)) b.n representative c

module _ (b : Limits) (lawful : IsLawful b) (classes : List (List ℕ)) (h : IsClassList b classes) where
  -- a circuit whose rank is in a class is among the class's circuits
  listed : (list : List ℕ) (c : Circuit) → Within b c → Contains list (rank b c) → Contains (map (circuit_at b) list) c
  listed list c within has = subst (Contains (map (circuit_at b) list)) (circuit_at-rank b lawful c within) (Contains-map (circuit_at b) list (rank b c) has)

  -- by the representative of a class in place of a part
  pub earlier : (c front part back : Circuit) → Within b c → c ≡ front ++ part ++ back → Within b part → (class : ClassOf b classes part) → Earlier b classes c (front ++ class.representative ++ back)
  earlier c front part back within is within_part class =
      let r = class.representative in
      let whole : Within b (front ++ part ++ back) = subst (Within b) is within in
      record {
        within = within-replaced b front part back whole r class.within (before_not_longer r part class.before);
        before = subst (λ x. is_before (front ++ r ++ back) x ≡ true) (sym is) (before-replaced front r part back class.before);
        equivalent = subst (Equivalent b.q (front ++ r ++ back)) (sym is) (equivalent-replaced b front r part back whole class.within class.equivalent);
        step = record {
          front = front;
          back = back;
          members = map (circuit_at b) class.list;
          old = part;
          new = r;
          is_class = Contains-map (map (circuit_at b)) classes class.list class.is_class;
          old_member = listed class.list part within_part class.has;
          new_member = listed class.list r class.within class.has_representative;
          before = is;
          after = refl;
        };
      }

  -- a representative is reduced
  reduced_itself : (c : Circuit) → IsRepresentative b c → Reduced b classes c
  reduced_itself c least = record {
    representative = c;
    least = least;
    equivalent = reflexive b.q c;
    there = linked_itself (Step (circuits_of_ranks b classes)) b.n c least.within.short;
    back = linked_itself (Step (circuits_of_ranks b classes)) b.n c least.within.short;
  }

  -- a circuit is reduced by a step to an earlier one that is reduced
  reduced_by : (c d : Circuit) → Within b c → Earlier b classes c d → Reduced b classes d → Reduced b classes c
  reduced_by c d within e r =
      let classes' = circuits_of_ranks b classes in
      let by = Step classes' in
      let last = linked_first by b.n d c c e.within.short (step_back classes' c d e.step) (linked_itself by b.n c within.short) in
      record {
        representative = r.representative;
        least = r.least;
        equivalent = transitive b.q r.representative d c r.equivalent e.equivalent;
        there = linked_first by b.n c d r.representative within.short e.step r.there;
        back = linked_on by b.n r.representative d c r.back last;
      }

  -- each circuit is reduced
  reduced : (bound : ℕ) (c : Circuit) → Within b c → rank b c < bound → Reduced b classes c
  reduced zero c within less = absurd (omega arith)
  reduced (suc bound) c within less = elim (known b lawful classes h c within) [
    | inl least ↦ reduced_itself c least
    | inr later ↦
        let found = kept_part b (known b lawful classes h) (length c) c (omega arith) within later in
        let class = has_class b lawful classes h found.part found.kept found.later in
        let d = found.front ++ class.representative ++ found.back in
        let e = earlier c found.front found.part found.back within found.is found.kept.within class in
        let lower = (before_by_rank b lawful d c e.within within).0 e.before in
        reduced_by c d within e (reduced bound d e.within (omega (arith, lower, less)))
  ]

  -- the classes join equivalent circuits: both are reduced, to the same representative
  pub joins_equivalent : JoinsEquivalent b classes
  joins_equivalent a c within_a within_c same =
      let first = reduced (suc (rank b a)) a within_a (omega arith) in
      let second = reduced (suc (rank b c)) c within_c (omega arith) in
      let to_c = transitive b.q first.representative a c first.equivalent same in
      let to_second = transitive b.q first.representative c second.representative to_c (symmetric b.q second.representative c second.equivalent) in
      let one = same_representative b lawful first.representative second.representative first.least second.least to_second in
      let classes' = circuits_of_ranks b classes in
      let by = Step classes' in
      let there : Linked by b.n a second.representative = subst (Linked by b.n a) one first.there in
      joined_from_linked by b.n a c (linked_on by b.n a second.representative c there second.back)
