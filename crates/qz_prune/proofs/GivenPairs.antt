-- What a set of pairs of ranks gains by a renaming of two circuits, and by all of them.
use Rattle.std.proofs.Common.{◌≡◌, ℕ, ◌+◌, take, get_or, ◌<◌, ◌≤◌, Bool, true, false, cond, eqb, List, [], ◌∷◌, ◌++◌, length, ◌⊎◌, inl, inr, refl, sym, ap, subst, ◌∙◌, arith, eq-eqb, true≢false}
use Rattle.std.specs.Prelude.{◌↔◌, ◌&&◌, Option, Some, None, Contains}
use Rattle.std.proofs.lemmas.Bool.Decides.{Decides-eqb}
use Rattle.std.proofs.lemmas.List.{take_more}
use Rattle.std.proofs.lemmas.List.Elements.{Contains-append_cases, Contains-append_left, Contains-append_right}
use Rattle.qz_circ.specs.Circuit.{Circuit, Limits, Within}
use Rattle.qz_circ.specs.Bounds.{IsLawful}
use Rattle.qz_circ.specs.Order.{all_circuits, rank, circuit_at}
use Rattle.qz_circ.specs.Pairs.{Pair}
use Rattle.qz_circ.specs.Relabellings.{renamed}
use Rattle.qz_circ.proofs.CircuitPlaces.{circuit_at-within}
use Rattle.qz_circ.proofs.ClassLaws.{contains_cases, contains_first, contains_none}
use Rattle.qz_circ.proofs.RankLemmas.{circuit_at-rank, rank-circuit_at}
use Rattle.qz_prune.specs.declared.relabelling.Relabelling.{Relabelling}
use Rattle.qz_prune.specs.Seen.{Ranks, same_ranks, IsPair, IsRankOf, AreRanksOf, AreOfPair, Gains, IsMade}

-- the ranks of a pair
abbrev pub ranks_of : Pair → Ranks
ranks_of pair = (pair.first, pair.later)

-- equal ranks are the same, and the same ones equal
same_to : (p q : Ranks) → same_ranks p q ≡ true → (p.0 ≡ q.0) × (p.1 ≡ q.1)
same_to p q h = by (eqb p.0 q.0) (eqb p.1 q.1) (Decides-eqb p.0 q.0).0 (Decides-eqb p.1 q.1).0 h
  where
    by : (first second : Bool) → (first ≡ true → p.0 ≡ q.0) → (second ≡ true → p.1 ≡ q.1) → (first && second) ≡ true → (p.0 ≡ q.0) × (p.1 ≡ q.1)
    by true true f s h = (f refl, s refl)
    by true false f s h = absurd (true≢false (sym h))
    by false second f s h = absurd (true≢false (sym h))

same_from : (p q : Ranks) → p.0 ≡ q.0 → p.1 ≡ q.1 → same_ranks p q ≡ true
same_from p q first second = λ i. eq-eqb p.0 q.0 first i && eq-eqb p.1 q.1 second i

module _ (b : Limits) (lawful : IsLawful b) where
  -- the circuits of a pair are within the limits
  first_within : (pair : Pair) → IsPair b pair → Within b (circuit_at b pair.first)
  first_within pair is = circuit_at-within b pair.first (omega (arith, is.ordered, is.listed))

  later_within : (pair : Pair) → IsPair b pair → Within b (circuit_at b pair.later)
  later_within pair is = circuit_at-within b pair.later is.listed

  -- and so circuits that are those
  made_within : (x y : Circuit) (pair : Pair) → IsPair b pair → AreOfPair b x y pair → Within b x × Within b y
  made_within x y pair is (inl (first, later)) = (subst (Within b) (sym first) (first_within pair is), subst (Within b) (sym later) (later_within pair is))
  made_within x y pair is (inr (later, first)) = (subst (Within b) (sym later) (later_within pair is), subst (Within b) (sym first) (first_within pair is))

  -- the rank of the circuit at a rank
  rank_of : (x : Circuit) (r : ℕ) → r < length (all_circuits b) → x ≡ circuit_at b r → rank b x ≡ r
  rank_of x r listed is = ap (rank b) is ∙ rank-circuit_at b lawful r listed

  -- the circuit with a rank
  circuit_of : (x : Circuit) (r : ℕ) → Within b x → r ≡ rank b x → x ≡ circuit_at b r
  circuit_of x r within is = sym (circuit_at-rank b lawful x within) ∙ ap (circuit_at b) (sym is)

  module _ (x y : Circuit) (p : Ranks) (h : AreRanksOf b x y (Some p)) (pair : Pair) (is : IsPair b pair) where
    -- the ranks of two circuits are those of a pair where these are its circuits
    made_of : p.0 ≡ pair.first → p.1 ≡ pair.later → AreOfPair b x y pair
    made_of first later = elim h.1.1 [
      | inl straight ↦ inl (circuit_of x pair.first h.0.0 (sym first ∙ straight.0), circuit_of y pair.later h.0.1 (sym later ∙ straight.1))
      | inr crossed ↦ inr (circuit_of x pair.later h.0.0 (sym later ∙ crossed.1), circuit_of y pair.first h.0.1 (sym first ∙ crossed.0))
    ]

    ranks_of_made : AreOfPair b x y pair → (p.0 ≡ pair.first) × (p.1 ≡ pair.later)
    ranks_of_made made = by made h.1.1
      where
        first_listed : pair.first < length (all_circuits b)
        first_listed = omega (arith, is.ordered, is.listed)

        by : AreOfPair b x y pair → ((p.0 ≡ rank b x) × (p.1 ≡ rank b y)) ⊎ ((p.0 ≡ rank b y) × (p.1 ≡ rank b x)) → (p.0 ≡ pair.first) × (p.1 ≡ pair.later)
        by (inl (first, later)) (inl (low, high)) =
            (omega (arith, low, rank_of x pair.first first_listed first), omega (arith, high, rank_of y pair.later is.listed later))
        by (inl (first, later)) (inr (low, high)) =
            let rx = rank_of x pair.first first_listed first in
            let ry = rank_of y pair.later is.listed later in
            (omega (arith, low, high, rx, ry, h.1.0, is.ordered), omega (arith, low, high, rx, ry, h.1.0, is.ordered))
        by (inr (later, first)) (inl (low, high)) =
            let rx = rank_of x pair.later is.listed later in
            let ry = rank_of y pair.first first_listed first in
            (omega (arith, low, high, rx, ry, h.1.0, is.ordered), omega (arith, low, high, rx, ry, h.1.0, is.ordered))
        by (inr (later, first)) (inr (low, high)) =
            (omega (arith, low, rank_of y pair.first first_listed first), omega (arith, high, rank_of x pair.later is.listed later))

  -- a set with these ranks more
  pub gains_some : (x y : Circuit) (p : Ranks) (old new : Ranks → Bool) → AreRanksOf b x y (Some p) → ((q : Ranks) → new q ≡ cond (same_ranks p q) true (old q)) → Gains b (AreOfPair b x y) old new
  gains_some x y p old new h updates = record { tells = λ pair is. (to pair is, from pair is) }
    where
      to : (pair : Pair) → IsPair b pair → new (ranks_of pair) ≡ true → (old (ranks_of pair) ≡ true) ⊎ AreOfPair b x y pair
      to pair is has = by (same_ranks p (ranks_of pair)) (same_to p (ranks_of pair)) (sym (updates (ranks_of pair)) ∙ has)
        where
          by : (same : Bool) → (same ≡ true → (p.0 ≡ pair.first) × (p.1 ≡ pair.later)) → cond same true (old (ranks_of pair)) ≡ true → (old (ranks_of pair) ≡ true) ⊎ AreOfPair b x y pair
          by true equal h' = let e = equal refl in inr (made_of x y p h pair is e.0 e.1)
          by false equal h' = inl h'

      from : (pair : Pair) → IsPair b pair → (old (ranks_of pair) ≡ true) ⊎ AreOfPair b x y pair → new (ranks_of pair) ≡ true
      from pair is (inl had) = updates (ranks_of pair) ∙ both (same_ranks p (ranks_of pair))
        where
          both : (same : Bool) → cond same true (old (ranks_of pair)) ≡ true
          both true = refl
          both false = had
      from pair is (inr made) =
          let e = ranks_of_made x y p h pair is made in
          updates (ranks_of pair) ∙ ap (λ same. cond same true (old (ranks_of pair))) (same_from p (ranks_of pair) e.0 e.1)

  -- the same set, where one of the circuits isn't within the limits
  pub gains_none : (x y : Circuit) (seen : Ranks → Bool) → AreRanksOf b x y None → Gains b (AreOfPair b x y) seen seen
  gains_none x y seen outside = record {
    tells = λ pair is. (λ has. inl has, λ either. elim either [ inl had ↦ had | inr made ↦ absurd (outside (made_within x y pair is made)) ]);
  }

-- both ranks
pub both_ranks : (b : Limits) (c d : Circuit) (x y : ℕ) → IsRankOf b c (Some x) → IsRankOf b d (Some y) → x < y → AreRanksOf b c d (Some (x, y))
both_ranks b c d x y hc hd less = ((hc.within.0 refl, hd.within.0 refl), (omega arith, inl (hc.ranked, hd.ranked)))

pub both_crossed : (b : Limits) (c d : Circuit) (x y : ℕ) → IsRankOf b c (Some x) → IsRankOf b d (Some y) → y ≤ x → AreRanksOf b c d (Some (y, x))
both_crossed b c d x y hc hd less = ((hc.within.0 refl, hd.within.0 refl), (less, inr (hd.ranked, hc.ranked)))

module _ (b : Limits) (x y : Circuit) where
  -- no relabellings make no pairs
  pub gains_of_none : (seen : Ranks → Bool) → Gains b (IsMade b [] x y) seen seen
  gains_of_none seen = record { tells = λ pair is. (λ has. inl has, λ either. elim either [ inl had ↦ had | inr made ↦ absurd (contains_none made.by made.listed) ]) }

  -- one more
  pub gains_more : (done : List Relabelling) (r : Relabelling) (old middle new : Ranks → Bool) → Gains b (IsMade b done x y) old middle →
      Gains b (AreOfPair b (renamed r.qubits r.params x) (renamed r.qubits r.params y)) middle new → Gains b (IsMade b (done ++ r ∷ []) x y) old new
  gains_more done r old middle new first second = record { tells = λ pair is. (to pair is, from pair is) }
    where
      to : (pair : Pair) → IsPair b pair → new (ranks_of pair) ≡ true → (old (ranks_of pair) ≡ true) ⊎ IsMade b (done ++ r ∷ []) x y pair
      to pair is has = elim ((second.tells pair is).0 has) [
        | inl before ↦ elim ((first.tells pair is).0 before) [
          | inl had ↦ inl had
          | inr made ↦ inr (record { by = made.by; listed = Contains-append_left done (r ∷ []) made.by made.listed; makes = made.makes })
        ]
        | inr made ↦ inr (record { by = r; listed = Contains-append_right done (r ∷ []) r (contains_first r []); makes = made })
      ]

      from : (pair : Pair) → IsPair b pair → (old (ranks_of pair) ≡ true) ⊎ IsMade b (done ++ r ∷ []) x y pair → new (ranks_of pair) ≡ true
      from pair is (inl had) = (second.tells pair is).1 (inl ((first.tells pair is).1 (inl had)))
      from pair is (inr made) = elim (Contains-append_cases done (r ∷ []) made.by made.listed) [
        | inl before ↦ (second.tells pair is).1 (inl ((first.tells pair is).1 (inr (record { by = made.by; listed = before; makes = made.makes }))))
        | inr last ↦ elim (contains_cases r [] made.by last) [
          | inl same ↦ (second.tells pair is).1 (inr (subst (λ s. AreOfPair b (renamed s.qubits s.params x) (renamed s.qubits s.params y) pair) (sym same) made.makes))
          | inr later ↦ absurd (contains_none made.by later)
        ]
      ]

  -- one more, at a place
  pub gains_at : (all : List Relabelling) (i : ℕ) (d : Relabelling) (old middle new : Ranks → Bool) → i < length all → Gains b (IsMade b (take i all) x y) old middle →
      Gains b (AreOfPair b (renamed (get_or all i d).qubits (get_or all i d).params x) (renamed (get_or all i d).qubits (get_or all i d).params y)) middle new → Gains b (IsMade b (take (i + 1) all) x y) old new
  gains_at all i d old middle new inside first second =
      subst (λ (rs : List Relabelling). Gains b (IsMade b rs x y) old new) (sym (take_more all i d inside)) (gains_more (take i all) (get_or all i d) old middle new first second)
