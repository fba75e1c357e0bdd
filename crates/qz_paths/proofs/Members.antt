-- The members of a class are equivalent to each other, since each is equivalent to the representative.
use Rattle.std.proofs.Common.{◌≡◌, ℕ, List, [], ◌∷◌, length, nat_lt, Bool, true, sym, subst, ap, ◌∙◌}
use Rattle.std.specs.Prelude.{Contains}
use Rattle.std.specs.List.{AllZip, AllByRecursion}
use Rattle.std.proofs.lemmas.List.Elements.{All-contains, All-from_recursion}
use Rattle.qz_circ.specs.Circuit.{Limits}
use Rattle.qz_circ.specs.Bounds.{IsLawful}
use Rattle.qz_circ.specs.Equivalence.{Equivalent}
use Rattle.qz_circ.specs.Order.{circuit_at}
use Rattle.qz_circ.specs.Classes.{ListsExactly, IsMemberRank, IsClassList, AreEquivalent, HasEquivalentMembers}
use Rattle.qz_circ.proofs.RisingLists.{each-filter}
use Rattle.qz_circ.proofs.RankLemmas.{circuit_at-rank}
use Rattle.qz_paths.proofs.Equivalences.{symmetric, transitive}

-- a member is equivalent to the circuit at the representative's rank
to_representative : (b : Limits) → IsLawful b → (r s : ℕ) → IsMemberRank b r s → Equivalent b.q (circuit_at b s) (circuit_at b r)
to_representative b lawful r s h =
    let member : circuit_at b s ≡ h.member = ap (circuit_at b) (sym h.ranked) ∙ circuit_at-rank b lawful h.member h.kept.within in
    let first : circuit_at b r ≡ h.representative.circuit = ap (circuit_at b) (sym h.representative.ranked) ∙ circuit_at-rank b lawful h.representative.circuit h.representative.representative.within in
    subst (λ c. Equivalent b.q c (circuit_at b r)) (sym member) (subst (λ c. Equivalent b.q h.member c) (sym first) h.equivalent)

-- two members of one representative
of_one : (b : Limits) → IsLawful b → (r : ℕ) (list : List ℕ) → ListsExactly (IsMemberRank b r) list → AreEquivalent b list
of_one b lawful r list h s t in_s in_t =
    let first = to_representative b lawful r s ((h.exactly s).0 in_s) in
    let second = to_representative b lawful r t ((h.exactly t).0 in_t) in
    transitive b.q (circuit_at b s) (circuit_at b r) (circuit_at b t) first (symmetric b.q (circuit_at b t) (circuit_at b r) second)

-- a list that has the members of some representative
pub record OfOne (b : Limits) (list : List ℕ) : Type 0 where
  pub number : ℕ
  pub exactly : ListsExactly (IsMemberRank b number) list

-- and so for the lists of all representatives
of_each : (b : Limits) (rs : List ℕ) (lists : List (List ℕ)) → AllZip (λ r list. ListsExactly (IsMemberRank b r) list) rs lists → AllByRecursion (OfOne b) lists
of_each b [] [] h = tt
of_each b [] (list ∷ lists) h = absurd h
of_each b (r ∷ rs) [] h = absurd h
of_each b (r ∷ rs) (list ∷ lists) h = (record { number = r; exactly = h.0 }, of_each b rs lists h.1)

-- each class has the members of some representative
pub of_class : (b : Limits) (classes : List (List ℕ)) → IsClassList b classes → (list : List ℕ) → Contains classes list → OfOne b list
of_class b classes h list in_classes =
    let several : List ℕ → Bool = λ l. nat_lt 1 (length l) in
    let kept = each-filter (OfOne b) several h.lists (of_each b h.representatives h.lists h.each_list) in
    let here = subst (AllByRecursion (λ l. OfOne b l × (several l ≡ true))) (sym h.several) kept in
    (All-contains (λ l. OfOne b l × (several l ≡ true)) classes list (All-from_recursion (λ l. OfOne b l × (several l ≡ true)) classes here) in_classes).0

-- the members of each class are equivalent
pub members_equivalent : (b : Limits) → IsLawful b → (classes : List (List ℕ)) → IsClassList b classes → HasEquivalentMembers b classes
members_equivalent b lawful classes h list in_classes = let one = of_class b classes h list in_classes in of_one b lawful one.number list one.exactly
