-- An index of the pairs of a class list tells the representative of each kept circuit.
use Rattle.std.proofs.Common.{◌≡◌, ℕ, Bool, true, false, cond, eqb, List, [], ◌∷◌, ◌++◌, ◌⊎◌, inl, inr, refl, sym, ap, subst, ◌∙◌, arith, Some, None}
use Rattle.std.specs.Prelude.{Contains, Option, MatchOption, Result, Ok, Err, OnOk}
use Rattle.std.specs.Result.{is_err}
use Rattle.std.proofs.lemmas.List.Elements.{Contains-append_cases, Contains-append_left, Contains-append_right}
use Rattle.std.proofs.lemmas.Bool.Decides.{Decides-eqb}
use Rattle.qz_circ.specs.Circuit.{Circuit, Limits, Within}
use Rattle.qz_circ.specs.Bounds.{IsLawful}
use Rattle.qz_circ.specs.Equivalence.{Equivalent}
use Rattle.qz_circ.specs.Order.{rank, circuit_at}
use Rattle.qz_circ.specs.Classes.{IsRepresentative, IsKept, IsClassList}
use Rattle.qz_circ.specs.Pairs.{Pair, pairs_of}
use Rattle.qz_circ.proofs.ClassLaws.{contains_cases, contains_first, contains_none}
use Rattle.qz_circ.proofs.RankLemmas.{circuit_at-rank, rank_listed}
use Rattle.qz_paths.proofs.LaterMembers.{LaterMember, later_is, no_later_member}
use Rattle.qz_derive.specs.Indexes.{IsIndex, HasRepresentative, FindsRepresentatives}

-- the pair of two ranks
abbrev pub pair : ℕ → ℕ → Pair
pair first later = record { first = first; later = later }

-- no pairs, and nothing found
pub index_none : (find : ℕ → Option ℕ) → ((r : ℕ) → find r ≡ None) → IsIndex [] find
index_none find nothing = record {
  tells = λ r.
      let P : Option ℕ → Type 0 = λ o. MatchOption o ((first : ℕ) → Contains [] (pair first r) → ⊥) (λ first. Contains [] (pair first r)) in
      subst P (sym (nothing r)) (λ first has. contains_none (pair first r) has);
}

-- one pair more
pub index_more : (pairs : List Pair) (old new : ℕ → Option ℕ) (first later : ℕ) → IsIndex pairs old → ((r : ℕ) → new r ≡ cond (eqb later r) (Some first) (old r)) → IsIndex (pairs ++ pair first later ∷ []) new
index_more pairs old new first later h updates = record { tells = λ r. subst (At r) (sym (updates r)) (by r (eqb later r) (Decides-eqb later r).0 (Decides-eqb later r).1 (old r) (h.tells r)) }
  where
    At : ℕ → Option ℕ → Type 0
    At r o = MatchOption o ((f : ℕ) → Contains (pairs ++ pair first later ∷ []) (pair f r) → ⊥) (λ f. Contains (pairs ++ pair first later ∷ []) (pair f r))

    by : (r : ℕ) (same : Bool) → (same ≡ true → later ≡ r) → (later ≡ r → same ≡ true) → (o : Option ℕ) →
        MatchOption o ((f : ℕ) → Contains pairs (pair f r) → ⊥) (λ f. Contains pairs (pair f r)) →
        At r (cond same (Some first) o)
    by r true is from o before = Contains-append_right pairs (pair first later ∷ []) (pair first r) (subst (λ x. Contains (pair first later ∷ []) (pair first x)) (is refl) (contains_first (pair first later) []))
    by r false is from None before = λ f has. elim (Contains-append_cases pairs (pair first later ∷ []) (pair f r) has) [
      | inl here ↦ before f here
      | inr there ↦ elim (contains_cases (pair first later) [] (pair f r) there) [
        | inl equal ↦ absurd (let differs = from (ap (λ (p : Pair). p.later) equal) in cc)
        | inr later' ↦ contains_none (pair f r) later'
      ]
    ]
    by r false is from (Some f) before = Contains-append_left pairs (pair first later ∷ []) (pair f r) before

-- an index of a class list's pairs
pub finds_representatives : (b : Limits) → IsLawful b → (classes : List (List ℕ)) → IsClassList b classes → (find : ℕ → Option ℕ) → IsIndex (pairs_of classes) find → FindsRepresentatives b find
finds_representatives b lawful classes list find index = record { tells = λ c kept. by c kept (find (rank b c)) (index.tells (rank b c)) }
  where
    by : (c : Circuit) → IsKept b c → (o : Option ℕ) → MatchOption o ((f : ℕ) → Contains (pairs_of classes) (pair f (rank b c)) → ⊥) (λ f. Contains (pairs_of classes) (pair f (rank b c))) →
        MatchOption o (IsRepresentative b c) (HasRepresentative b c)
    by c kept None none = no_later_member b lawful classes list c kept none
    by c kept (Some f) has =
        let member = later_is b lawful classes list f c kept.within has in
        let r = member.class.representative in
        let here : r ≡ circuit_at b f = sym (circuit_at-rank b lawful r member.class.within) ∙ ap (circuit_at b) member.ranked in
        record {
          none = member.none;
          listed = omega (arith, member.ranked, rank_listed b lawful r member.class.within);
          representative = subst (IsRepresentative b) here member.least;
          equivalent = subst (λ x. Equivalent b.q x c) here member.class.equivalent;
        }

-- what a call says where it ended well
pub when_ok : {A B P : Type 0} (result : Result A B) → is_err result ≡ false → OnOk result P → P
when_ok (Ok x) fine h = h
when_ok (Err e) fine h = absurd cc
