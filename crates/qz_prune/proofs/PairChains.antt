-- The pairs that are left join all equivalent circuits: each step of the class list goes by the first member of its class.
use Rattle.std.proofs.Common.{◌≡◌, ℕ, ◌+◌, ◌-◌, ◌<◌, ◌≤◌, List, [], ◌∷◌, ◌++◌, map, length, ◌⊎◌, inl, inr, refl, sym, ap, subst, ◌∙◌, arith, length-append}
use Rattle.std.specs.Prelude.{Contains, slice_get, Some, unwrap_or}
use Rattle.std.specs.List.{AllByRecursion}
use Rattle.std.proofs.lemmas.List.Kept.{AllPairs-from_increasing}
use Rattle.qz_circ.specs.Chains.{last_of}
use Rattle.qz_circ.specs.Circuit.{Circuit, Limits, Within}
use Rattle.qz_circ.specs.Bounds.{IsLawful}
use Rattle.qz_circ.specs.Classes.{IsClassList, HasEquivalentMembers}
use Rattle.qz_circ.specs.Equivalence.{Equivalent}
use Rattle.qz_circ.specs.Joined.{Step, AreReached, JoinedBy, circuits_of_ranks}
use Rattle.qz_circ.specs.Order.{circuit_at, all_circuits}
use Rattle.qz_circ.specs.Pairs.{Pair, pairs_of}
use Rattle.qz_circ.specs.Pruned.{IsGiven, Prunes, IsPruned, PairStep, pair_list, PairsJoinEquivalent}
use Rattle.qz_circ.specs.Relabellings.{IsRelabelled}
use Rattle.qz_circ.proofs.CircuitPlaces.{Contains-map, circuit_at-within}
use Rattle.qz_circ.proofs.ClassLaws.{contains_cases, contains_first, contains_rest, contains_none, first_below}
use Rattle.qz_circ.proofs.RankLemmas.{before_by_rank, rank-circuit_at}
use Rattle.qz_paths.proofs.Chains.{Linked, linked_itself, linked_first, linked_on, joined_from_linked, last_listed}
use Rattle.qz_paths.proofs.Completeness.{joins_equivalent}
use Rattle.qz_paths.proofs.LaterMembers.{Given, given_by_map, PairOf, pair_of, pair_listed, class_rises, member_listed}
use Rattle.qz_paths.proofs.Members.{members_equivalent}
use Rattle.qz_paths.proofs.Parts.{before_not_longer}
use Rattle.qz_prune.proofs.Covered.{covered, left_listed}
use Rattle.qz_prune.proofs.Identity.{own_names, own_permutation, circuit_stays}

-- a relabelled pair, in the other order
turned : (b : Limits) (pair : Pair) (x y : Circuit) → IsRelabelled b pair x y → IsRelabelled b pair y x
turned b pair x y h = record {
  qubits = h.qubits;
  params = h.params;
  permutes_qubits = h.permutes_qubits;
  permutes_params = h.permutes_params;
  renames = elim h.renames [ inl same ↦ inr same | inr other ↦ inl other ];
}

module _ (b : Limits) (lawful : IsLawful b) (classes : List (List ℕ)) (list : IsClassList b classes) where
  -- both ranks of a pair are within the limits
  pub pair_ranks : (pair : Pair) → Contains (pairs_of classes) pair → (pair.first < length (all_circuits b)) × (pair.later < length (all_circuits b))
  pair_ranks pair has =
      let class = pair_of classes pair has in (
        member_listed b lawful classes list (pair.first ∷ class.later) class.is_class pair.first (contains_first pair.first class.later),
        member_listed b lawful classes list (pair.first ∷ class.later) class.is_class pair.later (contains_rest pair.first class.later pair.later class.has),
      )

  -- a pair gives itself
  gives_itself : (pair : Pair) → Contains (pairs_of classes) pair → IsRelabelled b pair (circuit_at b pair.first) (circuit_at b pair.later)
  gives_itself pair has =
      let ranks = pair_ranks pair has in
      record {
        qubits = own_names;
        params = own_names;
        permutes_qubits = own_permutation b.q;
        permutes_params = own_permutation b.m;
        renames = inl (circuit_stays b lawful (circuit_at b pair.first) (circuit_at-within b pair.first ranks.0), circuit_stays b lawful (circuit_at b pair.later) (circuit_at-within b pair.later ranks.1));
      }

  module _ (lists : List (List ℕ)) (p : IsPruned b classes lists) where
    -- each pair is given by what is left
    all_given : (pair : Pair) → Contains (pairs_of classes) pair → IsGiven b p.left pair
    all_given = covered b [] (pairs_of classes) p.left p.prunes gives_itself

    -- how long a circuit is around a part
    length_around : (front part back : Circuit) → length (front ++ part ++ back) ≡ length front + length part + length back
    length_around front part back = omega (arith, length-append (front ++ part) back, length-append front part)

    -- a member is joined with the first one, within other gates
    record Halves (front back : Circuit) (first r : ℕ) : Type 0 where
      shorter : length (circuit_at b first) ≤ length (circuit_at b r)
      there : length (front ++ circuit_at b r ++ back) ≤ b.n → Linked (PairStep b lists) b.n (front ++ circuit_at b r ++ back) (front ++ circuit_at b first ++ back)
      back_again : length (front ++ circuit_at b r ++ back) ≤ b.n → Linked (PairStep b lists) b.n (front ++ circuit_at b first ++ back) (front ++ circuit_at b r ++ back)

    -- the first one
    half_first : (front back : Circuit) (first : ℕ) → Halves front back first first
    half_first front back first = record {
      shorter = omega arith;
      there = λ few. linked_itself (PairStep b lists) b.n (front ++ circuit_at b first ++ back) few;
      back_again = λ few. linked_itself (PairStep b lists) b.n (front ++ circuit_at b first ++ back) few;
    }

    -- a later one
    half_later : (front back : Circuit) (first : ℕ) (later : List ℕ) (r : ℕ) → Contains classes (first ∷ later) → Contains later r → Halves front back first r
    half_later front back first later r is_class has =
        let pair : Pair = record { first = first; later = r } in
        let listed = pair_listed classes pair (record { later = later; is_class = is_class; has = has }) in
        let given = all_given pair listed in
        let ranks = pair_ranks pair listed in
        let below = first_below first later (AllPairs-from_increasing (first ∷ later) (class_rises b lawful classes list (first ∷ later) is_class)) r has in
        let x = circuit_at b r in
        let f = circuit_at b first in
        let wx = circuit_at-within b r ranks.1 in
        let wf = circuit_at-within b first ranks.0 in
        let shorter = before_not_longer f x ((before_by_rank b lawful f x wf wx).1 (omega (arith, rank-circuit_at b lawful first ranks.0, rank-circuit_at b lawful r ranks.1, below))) in
        let kept : Contains lists (pair_list given.old) = subst (λ ls. Contains ls (pair_list given.old)) (sym p.are) (Contains-map pair_list p.left given.old given.listed) in
        let middle : length (front ++ x ++ back) ≤ b.n → length (front ++ f ++ back) ≤ b.n = λ few. omega (arith, length_around front x back, length_around front f back, shorter, few) in
        let down : PairStep b lists (front ++ x ++ back) (front ++ f ++ back) = record { front = front; back = back; pair = given.old; old = x; new = f; listed = kept; relabelled = turned b given.old f x given.relabelled; before = refl; after = refl } in
        let up : PairStep b lists (front ++ f ++ back) (front ++ x ++ back) = record { front = front; back = back; pair = given.old; old = f; new = x; listed = kept; relabelled = given.relabelled; before = refl; after = refl } in
        record {
          shorter = shorter;
          there = λ few. linked_first (PairStep b lists) b.n (front ++ x ++ back) (front ++ f ++ back) (front ++ f ++ back) few down (linked_itself (PairStep b lists) b.n (front ++ f ++ back) (middle few));
          back_again = λ few. linked_first (PairStep b lists) b.n (front ++ f ++ back) (front ++ x ++ back) (front ++ x ++ back) (middle few) up (linked_itself (PairStep b lists) b.n (front ++ x ++ back) few);
        }

    -- any member
    half : (front back : Circuit) (first : ℕ) (later : List ℕ) (r : ℕ) → Contains classes (first ∷ later) → Contains (first ∷ later) r → Halves front back first r
    half front back first later r is_class has = elim (contains_cases first later r has) [
      | inl same ↦ subst (Halves front back first) same (half_first front back first)
      | inr after ↦ half_later front back first later r is_class after
    ]

    -- a member for another one
    of_members : (front back : Circuit) (class : List ℕ) (r s : ℕ) → Contains classes class → Contains class r → Contains class s →
        length (front ++ circuit_at b r ++ back) ≤ b.n → length (front ++ circuit_at b s ++ back) ≤ b.n → Linked (PairStep b lists) b.n (front ++ circuit_at b r ++ back) (front ++ circuit_at b s ++ back)
    of_members front back [] r s is_class has_r has_s few_r few_s = absurd (contains_none r has_r)
    of_members front back (first ∷ later) r s is_class has_r has_s few_r few_s =
        linked_on (PairStep b lists) b.n (front ++ circuit_at b r ++ back) (front ++ circuit_at b first ++ back) (front ++ circuit_at b s ++ back)
        ((half front back first later r is_class has_r).there few_r) ((half front back first later s is_class has_s).back_again few_s)

    -- so each step
    of_step : (x y : Circuit) → Step (circuits_of_ranks b classes) x y → length x ≤ b.n → length y ≤ b.n → Linked (PairStep b lists) b.n x y
    of_step x y h few_x few_y =
        let class = given_by_map (map (circuit_at b)) classes h.members h.is_class in
        let r = given_by_map (circuit_at b) class.from h.old (subst (λ ms. Contains ms h.old) (sym class.is) h.old_member) in
        let s = given_by_map (circuit_at b) class.from h.new (subst (λ ms. Contains ms h.new) (sym class.is) h.new_member) in
        let is_x : front_of r.from ≡ x = ap (λ c. h.front ++ c ++ h.back) r.is ∙ sym h.before in
        let is_y : front_of s.from ≡ y = ap (λ c. h.front ++ c ++ h.back) s.is ∙ sym h.after in
        let linked = of_members h.front h.back class.from r.from s.from class.listed r.listed s.listed
        (subst (λ c. length c ≤ b.n) (sym is_x) few_x) (subst (λ c. length c ≤ b.n) (sym is_y) few_y) in
        subst (λ c. Linked (PairStep b lists) b.n c y) is_x (subst (Linked (PairStep b lists) b.n (front_of r.from)) is_y linked)
      where
        front_of : ℕ → Circuit
        front_of k = h.front ++ circuit_at b k ++ h.back

    -- and each chain of steps
    of_chain : (x : Circuit) (rest : List Circuit) → AllByRecursion (λ c. length c ≤ b.n) (x ∷ rest) → AreReached (Step (circuits_of_ranks b classes)) (x ∷ rest) → Linked (PairStep b lists) b.n x (last_of x rest)
    of_chain x [] short steps = linked_itself (PairStep b lists) b.n x short.0
    of_chain x (y ∷ rest) short steps =
        linked_on (PairStep b lists) b.n x y (last_of y rest) (of_step x y steps.0 short.0 short.1.0) (of_chain y rest short.1 steps.1)

    of_joined : (chain : List Circuit) (x y : Circuit) → AllByRecursion (λ c. length c ≤ b.n) chain → slice_get chain 0 ≡ Some x → slice_get chain (length chain - 1) ≡ Some y →
        AreReached (Step (circuits_of_ranks b classes)) chain → Linked (PairStep b lists) b.n x y
    of_joined [] x y short starts ends steps = absurd cc
    of_joined (c ∷ rest) x y short starts ends steps =
        let first : c ≡ x = ap (λ o. unwrap_or o c) starts in
        let place : length (c ∷ rest) - 1 ≡ length rest = omega arith in
        let listed : Some (last_of c rest) ≡ Some y = sym (last_listed (PairStep b lists) b.n c rest) ∙ ap (slice_get (c ∷ rest)) (sym place) ∙ ends in
        let last : last_of c rest ≡ y = ap (λ o. unwrap_or o c) listed in
        subst (λ z. Linked (PairStep b lists) b.n z y) first (subst (Linked (PairStep b lists) b.n c) last (of_chain c rest short steps))

    -- equivalent circuits are joined
    pub pairs_join : PairsJoinEquivalent b lists
    pairs_join a c wa wc same =
        let joined = joins_equivalent b lawful classes list a c wa wc same in
        joined_from_linked (PairStep b lists) b.n a c (of_joined joined.chain a c joined.short joined.starts joined.ends joined.steps)

    -- the two circuits of each list are equivalent
    pub pairs_equivalent : HasEquivalentMembers b lists
    pairs_equivalent ranks in_lists r s has_r has_s =
        let given = given_by_map pair_list p.left ranks (subst (λ ls. Contains ls ranks) p.are in_lists) in
        let class = pair_of classes given.from (left_listed b [] (pairs_of classes) p.left p.prunes given.from given.listed) in
        let whole = members_equivalent b lawful classes list (given.from.first ∷ class.later) class.is_class in
        whole r s (in_class given.from class r (subst (λ l. Contains l r) (sym given.is) has_r)) (in_class given.from class s (subst (λ l. Contains l s) (sym given.is) has_s))
      where
        in_class : (pair : Pair) (class : PairOf classes pair) (t : ℕ) → Contains (pair_list pair) t → Contains (pair.first ∷ class.later) t
        in_class pair class t has = elim (contains_cases pair.first (pair.later ∷ []) t has) [
          | inl first ↦ subst (Contains (pair.first ∷ class.later)) first (contains_first pair.first class.later)
          | inr rest ↦ elim (contains_cases pair.later [] t rest) [
            | inl later ↦ subst (Contains (pair.first ∷ class.later)) later (contains_rest pair.first class.later pair.later class.has)
            | inr none ↦ absurd (contains_none t none)
          ]
        ]
