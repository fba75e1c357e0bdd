-- The part that is replaced, as it is looked for: by its end, and for each end by its beginning.
use Rattle.std.proofs.Common.{◌≡◌, ℕ, zero, suc, ◌+◌, ◌-◌, ◌<◌, ◌≤◌, [], ◌++◌, length, take, drop, ◌⊎◌, inl, inr, refl, sym, ap, subst, ◌∙◌, arith, length-drop, length-take}
use Rattle.std.specs.Prelude.{◌↔◌, Option, Some, None, IsSome, IfSome, MatchOption}
use Rattle.std.proofs.lemmas.Bool.{cases_order}
use Rattle.std.proofs.lemmas.List.{drop_all, take_all, length-take-le}
use Rattle.qz_circ.specs.Circuit.{Circuit, Limits, Within}
use Rattle.qz_circ.specs.Bounds.{IsLawful}
use Rattle.qz_circ.specs.Equivalence.{Equivalent}
use Rattle.qz_circ.specs.Order.{rank, circuit_at}
use Rattle.qz_circ.specs.Classes.{IsRepresentative, IsKept, without_last}
use Rattle.qz_circ.specs.Chains.{part_of, IsFirstPart, IsLowered}
use Rattle.qz_circ.proofs.RankLemmas.{before_by_rank, circuit_at-rank, rank-circuit_at}
use Rattle.qz_derive.specs.Indexes.{HasRepresentative}
use Rattle.qz_derive.specs.Descents.{IsLastPart, IsPart}
use Rattle.qz_derive.proofs.Lowered.{LowerTo, lower_is, kept_back, back_representative, empty_representative, take_take}

module _ (b : Limits) (c : Circuit) where
  -- the gates from these places on are representatives
  abbrev pub BacksFrom : ℕ → Type 0
  BacksFrom n = (k : ℕ) → n ≤ k → k ≤ length c → IsRepresentative b (drop k c)

  -- the gates before these places are representatives
  abbrev pub FrontsTo : ℕ → Type 0
  FrontsTo n = (k : ℕ) → k < n → IsRepresentative b (take k c)

  -- no gates at all
  pub backs_none : BacksFrom (length c)
  backs_none k low high = subst (IsRepresentative b) (sym (drop_all k c low)) (empty_representative b)

  -- the gates from a place on are kept
  pub back_kept : (behind start : ℕ) → start ≡ length c - 1 - behind → behind < length c → Within b c → FrontsTo (length c) → BacksFrom (length c - behind) → IsKept b (drop start c)
  back_kept behind start is inside within fronts backs =
      kept_back b c start (omega arith) within (fronts (length c - 1) (omega arith)) (backs (start + 1) (omega arith) (omega arith))

  -- one place more
  pub backs_more : (behind start : ℕ) → start ≡ length c - 1 - behind → behind < length c → BacksFrom (length c - behind) → IsRepresentative b (drop start c) → BacksFrom (length c - (behind + 1))
  backs_more behind start is inside backs here k low high = elim (cases_order k start) [
    | inl same ↦ subst (λ n. IsRepresentative b (drop n c)) (sym same) here
    | inr (inl less) ↦ absurd (omega (arith, less))
    | inr (inr more) ↦ backs k (omega (arith, more)) high
  ]

  -- the last part is found
  pub last_found : (behind start put : ℕ) → start ≡ length c - 1 - behind → behind < length c → BacksFrom (length c - behind) → HasRepresentative b (drop start c) put → IsLastPart b c start put
  last_found behind start put is inside backs found = record {
    order = omega arith;
    shorter = λ k low high. backs k (omega arith) high;
    found = found;
  }

  -- all the gates
  pub backs_all : (behind : ℕ) → length c ≤ behind → BacksFrom (length c - behind) → IsRepresentative b c
  backs_all behind all backs = backs 0 (omega arith) (omega arith)

  -- one front more
  pub fronts_more : (n : ℕ) → FrontsTo n → IsRepresentative b (take n c) → FrontsTo (n + 1)
  fronts_more n fronts here k less = elim (cases_order k n) [
    | inl same ↦ subst (λ m. IsRepresentative b (take m c)) (sym same) here
    | inr (inl lower) ↦ fronts k lower
    | inr (inr more) ↦ absurd (omega (arith, more))
  ]

  -- the fronts of a front
  pub fronts_of_front : (n stop : ℕ) → stop ≡ n + 1 → n < length c → FrontsTo (n + 1) → (k : ℕ) → k < length (take stop c) → IsRepresentative b (take k (take stop c))
  fronts_of_front n stop is inside fronts k less =
      let long = length-take-le stop c (omega arith) in
      subst (IsRepresentative b) (sym (take_take k stop c (omega (arith, long)))) (fronts k (omega (arith, long)))

  -- the last part of the first front that is no representative
  pub part_found : (n start stop put : ℕ) → stop ≡ n + 1 → n < length c → FrontsTo (n + 1) → IsLastPart b (take stop c) start put → IsPart b c start stop put
  part_found n start stop put is inside fronts last =
      let long = length-take-le stop c (omega arith) in
      record {
        first = record {
          inside = omega arith;
          order = omega (arith, last.order, long);
          front_is_none = λ least. last.found.none (back_representative b start (take stop c) least);
          shorter_fronts = λ k less. fronts k (omega arith);
          part_is_none = last.found.none;
          shorter_parts = λ k low high. last.shorter k low (omega (arith, long));
        };
        found = last.found;
      }

  -- all fronts
  pub fronts_all : (n : ℕ) → length c ≤ n → FrontsTo (n + 1) → IsRepresentative b c
  fronts_all n all fronts = subst (IsRepresentative b) (take_all n c all) (fronts n (omega arith))

-- a circuit with the representative of its part in its place
pub lowered_by : (b : Limits) (c d : Circuit) (start stop put : ℕ) → IsPart b c start stop put → d ≡ take start c ++ circuit_at b put ++ drop stop c → IsLowered b c d
lowered_by b c d start stop put part is = record {
  start = start;
  stop = stop;
  part = part.first;
  put = circuit_at b put;
  representative = part.found.representative;
  equivalent = part.found.equivalent;
  replaced = is;
}

-- the rank of what it becomes, as it is asked for
pub lower_answer : (b : Limits) → IsLawful b → (r start stop put : ℕ) (c e : Circuit) → c ≡ circuit_at b r → Within b c → rank b c ≡ r → IsPart b c start stop put → e ≡ take start c ++ circuit_at b put ++ drop stop c →
    (answer : Option ℕ) → (IsSome answer ↔ Within b e) → IfSome answer (λ k. k ≡ rank b e) → MatchOption answer (IsRepresentative b (circuit_at b r)) (λ d. (d < r) × IsLowered b (circuit_at b r) (circuit_at b d))
lower_answer b lawful r start stop put c e is within ranked part replaced None found same =
    let h = lower_is b lawful c e within (lowered_by b c e start stop put part replaced) in
    absurd (let some = found.1 h.within in cc)
lower_answer b lawful r start stop put c e is within ranked part replaced (Some d) found same =
    let lowered = lowered_by b c e start stop put part replaced in
    let h = lower_is b lawful c e within lowered in
    let less : d < r = omega (arith, same, ranked, (before_by_rank b lawful e c h.within within).0 h.before) in
    let here : e ≡ circuit_at b d = sym (circuit_at-rank b lawful e h.within) ∙ ap (circuit_at b) (sym same) in
    (less, subst (λ x. IsLowered b x (circuit_at b d)) is (subst (IsLowered b c) here lowered))
