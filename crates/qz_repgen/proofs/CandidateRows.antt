-- Candidates by rows: those that are one circuit with one gate more at its end.
use Rattle.std.proofs.Common.{◌≡◌, ℕ, suc, ◌+◌, ◌-◌, ◌*◌, ◌/◌, ◌%◌, ◌<◌, ◌≤◌, List, length, map, inl, inr, refl, sym, ap, subst, ◌∙◌, arith, div-add-mod', get_or, ◌++◌, ◌∷◌, [], mul-le-mul_right, zero-mul}
use Rattle.std.specs.Prelude.{Contains}
use Rattle.std.specs.List.{range_with_len}
use Rattle.std.proofs.lemmas.Bool.{cases_lt}
use Rattle.std.proofs.lemmas.List.{length-map, get_or-map}
use Rattle.std.proofs.lemmas.List.FromFn.{length-range_with_len, get_or-range_with_len}
use Rattle.std.proofs.lemmas.List.Elements.{Contains-append_cases, Contains-append_left, Contains-append_right, Contains-push, Contains-push_cases, Contains-get_or}
use Rattle.std.proofs.lemmas.List.Kept.{AllPairs-from_increasing}
use Rattle.qz_circ.specs.Circuit.{Limits}
use Rattle.qz_circ.specs.Bounds.{IsLawful, gate_count}
use Rattle.qz_circ.specs.Order.{all_circuits, rank, circuit_at}
use Rattle.qz_circ.specs.Classes.{without_first, without_last, ListsExactly}
use Rattle.qz_circ.proofs.CircuitPlaces.{circuit_at-within, Contains-map}
use Rattle.qz_circ.proofs.RankLemmas.{rank-circuit_at, rank_listed, last_gate, all_few}
use Rattle.qz_repgen.specs.Candidate.{AreOfOneLength, IsCandidate, IsInRow, AddsRow}
use Rattle.qz_circ.proofs.ClassLaws.{Rises}
use Rattle.qz_repgen.proofs.RankLaws.{circuit_is}
use Rattle.qz_repgen.proofs.LowerLaws.{ranks_are_order}
use Rattle.qz_repgen.proofs.RisingRuns.{increasing_from_rises, rises-append, Contains-from_map}
use Rattle.qz_repgen.proofs.RankRows.{some_rank, row_listed, longer, last_rank, first_rank_of_one, first_rank}

module _ (b : Limits) (lawful : IsLawful b) (parts : List ℕ) where
  -- the circuit of a candidate is the one at its rank
  pub candidate_circuit : (r : ℕ) → (c : IsCandidate b parts r) → circuit_at b r ≡ c.circuit
  candidate_circuit r c = circuit_is b (ranks_are_order b lawful) r c.circuit c.within c.ranked

  pub candidate_listed : (r : ℕ) → IsCandidate b parts r → r < length (all_circuits b)
  candidate_listed r c = subst (λ x. x < length (all_circuits b)) c.ranked (rank_listed b lawful c.circuit c.within)

  -- the ranks of the row of a listed circuit are ranks
  row_below : AreOfOneLength b parts → (s : ℕ) → Contains parts s → s * gate_count b + gate_count b < length (all_circuits b)
  row_below one s has = row_listed b lawful s (one.listed s has) (one.short s has)

  -- a candidate is in the row of its part without the last gate
  candidate_in_row : (r : ℕ) → IsCandidate b parts r → (s : ℕ) × Contains parts s × IsInRow b s r
  candidate_in_row r c =
      let some : 0 < r = some_rank b lawful r (omega (arith, ap length (candidate_circuit r c), c.some)) in
      let listed = candidate_listed r c in
      let last = last_gate b lawful r (gate_count b) refl some listed in
      let s = (r - 1) / gate_count b in
      let d = (r - 1) % gate_count b in
      let place : r ≡ s * gate_count b + d + 1 = omega (arith, div-add-mod' (r - 1) (gate_count b)) in
      let here : rank b (without_last c.circuit) ≡ s = ap (λ x. rank b (without_last x)) (sym (candidate_circuit r c)) ∙ last_rank b lawful s d r place last.gate listed in
      let digit = last.gate in
      (s, subst (Contains parts) here c.last, (omega arith, omega arith))

  module _ (s r : ℕ) (in_row : IsInRow b s r) (listed : r < length (all_circuits b)) where
    -- the number of the gate at its end
    d : ℕ
    d = r - (s * gate_count b + 1)

    place : r ≡ s * gate_count b + d + 1
    unfolding d
    place = omega (arith, in_row.0)

    digit : d < gate_count b
    unfolding d
    digit = omega (arith, in_row.0, in_row.1)

    first_part : 0 < s → rank b (without_first (circuit_at b r)) ≡ rank b (without_first (circuit_at b s)) * gate_count b + (r - s * gate_count b)
    unfolding d
    first_part some = omega (arith, first_rank b lawful s d r place digit listed some, in_row.0)

    -- where both parts are listed, it is a candidate
    candidate_from_parts : Contains parts s → ((0 < s) → Contains parts (rank b (without_first (circuit_at b s)) * gate_count b + (r - s * gate_count b))) → IsCandidate b parts r
    candidate_from_parts has_last has_first = record {
      circuit = circuit_at b r;
      within = circuit_at-within b r listed;
      some = omega (arith, longer b lawful s d r place digit listed);
      ranked = rank-circuit_at b lawful r listed;
      first = elim (cases_lt 0 s) [
        | inl some ↦ subst (Contains parts) (sym (first_part some)) (has_first some)
        | inr none ↦
            let zero_part : s ≡ 0 = omega arith in
            subst (Contains parts) (zero_part ∙ sym (first_rank_of_one b lawful s d r place digit listed zero_part)) has_last
      ];
      last = subst (Contains parts) (sym (last_rank b lawful s d r place digit listed)) has_last;
    }

    -- a candidate has its parts listed
    parts_of_candidate : IsCandidate b parts r → Contains parts s × ((0 < s) → Contains parts (rank b (without_first (circuit_at b s)) * gate_count b + (r - s * gate_count b)))
    parts_of_candidate c =
        let here = sym (candidate_circuit r c) in (
          subst (Contains parts) (ap (λ x. rank b (without_last x)) here ∙ last_rank b lawful s d r place digit listed) c.last,
          λ some. subst (Contains parts) (ap (λ x. rank b (without_first x)) here ∙ first_part some) c.first,
        )

  module _ (one : AreOfOneLength b parts) (s : ℕ) (has : Contains parts s) where
    in_row_listed : (r : ℕ) → IsInRow b s r → r < length (all_circuits b)
    in_row_listed r in_row = omega (arith, row_below one s has, in_row.1)

    -- the numbers of its row and of the row without its first gate are small
    pub row_small : (gates : ℕ) → gates ≡ gate_count b → s * gates + gates < 9000000
    row_small gates e = subst (λ g. s * g + g < 9000000) (sym e) (omega (arith, row_below one s has, all_few b lawful))

    pub part_row_small : (t : ℕ) → t < s → (gates : ℕ) → gates ≡ gate_count b → t * gates + gates < 9000000
    part_row_small t below gates e =
        let row : suc t * gates ≤ s * gates = mul-le-mul_right gates below in
        omega (arith, row_small gates e)

    -- the row of the empty circuit is all gates
    all_gates : s ≡ 0 → ListsExactly (λ r. IsCandidate b parts r × IsInRow b s r) (range_with_len 1 (gate_count b))
    all_gates none = record {
      rising = λ k inside. omega (arith, length-range_with_len 1 (gate_count b), get_or-range_with_len 1 (gate_count b) k 0 (omega (arith, length-range_with_len 1 (gate_count b))), get_or-range_with_len 1 (gate_count b) (k + 1) 0 (omega (arith, length-range_with_len 1 (gate_count b))));
      exactly = λ r. (to r, from r);
    }
      where
        nothing : s * gate_count b ≡ 0
        nothing = ap (λ x. x * gate_count b) none ∙ zero-mul (gate_count b)

        to : (r : ℕ) → Contains (range_with_len 1 (gate_count b)) r → IsCandidate b parts r × IsInRow b s r
        to r (k, inside, is) =
            let place : r ≡ 1 + k = sym is ∙ get_or-range_with_len 1 (gate_count b) k r (omega (arith, length-range_with_len 1 (gate_count b))) in
            let in_row : IsInRow b s r = (omega (arith, nothing), omega (arith, nothing, inside, length-range_with_len 1 (gate_count b))) in
            (candidate_from_parts s r in_row (in_row_listed r in_row) has (λ some. absurd (omega (arith, none))), in_row)

        from : (r : ℕ) → IsCandidate b parts r × IsInRow b s r → Contains (range_with_len 1 (gate_count b)) r
        from r (c, in_row) =
            let inside : r - 1 < gate_count b = omega (arith, in_row.0, in_row.1, nothing) in
            let place : 1 + (r - 1) ≡ r = omega (arith, in_row.0) in
            (r - 1, omega (arith, inside, length-range_with_len 1 (gate_count b)), get_or-range_with_len 1 (gate_count b) (r - 1) r inside ∙ place)

    pub row_of_none : s ≡ 0 → (gates : ℕ) → gates ≡ gate_count b → ListsExactly (λ r. IsCandidate b parts r × IsInRow b s r) (range_with_len 1 gates)
    row_of_none none gates e = subst (λ g. ListsExactly (λ r. IsCandidate b parts r × IsInRow b s r) (range_with_len 1 g)) (sym e) (all_gates none)

    -- the listed circuits that begin with this one without its first gate, each moved into its row
    module _ (some : 0 < s) (t : ℕ) (is_part : t ≡ rank b (without_first (circuit_at b s))) (gates : ℕ) (e : gates ≡ gate_count b)
        (run : List ℕ) (exactly : ListsExactly (λ p. Contains parts p × (t * gates < p) × (p ≤ t * gates + gates)) run) where
      same_row : s * gates ≡ s * gate_count b
      same_row = ap (λ g. s * g) e

      same_part : (r : ℕ) → t * gates + (r - s * gates) ≡ rank b (without_first (circuit_at b s)) * gate_count b + (r - s * gate_count b)
      same_part r = λ i. is_part i * e i + (r - s * e i)

      pub row_moved : ListsExactly (λ r. IsCandidate b parts r × IsInRow b s r) (map (λ p. s * gates + (p - t * gates)) run)
      row_moved = record {
        rising = λ k inside.
            let two : k + 1 < length run = omega (arith, length-map run (λ p. s * gates + (p - t * gates))) in
            let low = ((exactly.exactly (get_or run k 0)).0 (Contains-get_or run k 0 (omega arith))).1 in
            let next = exactly.rising k two in
            omega (arith, low, next, get_or-map (λ p. s * gates + (p - t * gates)) run k 0 0 (omega arith), get_or-map (λ p. s * gates + (p - t * gates)) run (k + 1) 0 0 two);
        exactly = λ r. (to r, from r);
      }
        where
          to : (r : ℕ) → Contains (map (λ p. s * gates + (p - t * gates)) run) r → IsCandidate b parts r × IsInRow b s r
          to r moved =
              let source = Contains-from_map (λ p. s * gates + (p - t * gates)) run r moved in
              let p = source.0 in
              let at : s * gates + (p - t * gates) ≡ r = source.2 in
              let facts = (exactly.exactly p).0 source.1 in
              let low : t * gates < p = facts.1 in
              let high : p ≤ t * gates + gates = facts.2 in
              let in_row : IsInRow b s r = (omega (arith, same_row), omega (arith, same_row, e)) in
              let back : p ≡ t * gates + (r - s * gates) = omega arith in
              (candidate_from_parts s r in_row (in_row_listed r in_row) has (λ more. subst (Contains parts) (back ∙ same_part r) facts.0), in_row)

          from : (r : ℕ) → IsCandidate b parts r × IsInRow b s r → Contains (map (λ p. s * gates + (p - t * gates)) run) r
          from r (c, in_row) =
              let p = t * gates + (r - s * gates) in
              let listed = (parts_of_candidate s r in_row (in_row_listed r in_row) c).1 some in
              let low : s * gates < r = omega (arith, same_row, in_row.0) in
              let high : r ≤ s * gates + gates = omega (arith, same_row, e, in_row.1) in
              let at : s * gates + ((t * gates + (r - s * gates)) - t * gates) ≡ r = omega arith in
              let source : Contains run p = (exactly.exactly p).1 (subst (Contains parts) (sym (same_part r)) listed, omega arith, omega arith) in
              subst (Contains (map (λ q. s * gates + (q - t * gates)) run)) at (Contains-map (λ q. s * gates + (q - t * gates)) run p source)

-- found has the candidates in the rows of the circuits that are done
pub record RowsFound (b : Limits) (parts done found : List ℕ) : Type 0 where
  pub rising : Rises found
  pub each : (r : ℕ) → Contains found r → IsCandidate b parts r × ((s : ℕ) × Contains done s × IsInRow b s r)
  pub all : (s r : ℕ) → Contains done s → IsInRow b s r → IsCandidate b parts r → Contains found r

-- of no row there are none
rows_none : (b : Limits) (parts : List ℕ) → RowsFound b parts [] []
rows_none b parts = record {
  rising = λ i j d before inside. absurd (omega arith);
  each = λ r has. absurd (omega (arith, has.1));
  all = λ s r has. absurd (omega (arith, has.1));
}

-- one row more, of a circuit that comes after the others
pub rows_more : (b : Limits) (parts done found : List ℕ) (s : ℕ) (new : List ℕ) → RowsFound b parts done found → ((t : ℕ) → Contains done t → t < s) → AddsRow b parts s found new → RowsFound b parts (done ++ s ∷ []) new
rows_more b parts done found s new rows earlier adds = subst (RowsFound b parts (done ++ s ∷ [])) (sym adds.last) (record {
  rising = rises-append found adds.row rows.rising (AllPairs-from_increasing adds.row adds.exactly.rising) across;
  each = λ r has. elim (Contains-append_cases found adds.row r has) [
    | inl old ↦ let facts = rows.each r old in (facts.0, (facts.1.0, Contains-append_left done (s ∷ []) facts.1.0 facts.1.1, facts.1.2))
    | inr new ↦ let facts = (adds.exactly.exactly r).0 new in (facts.0, (s, Contains-push done s, facts.1))
  ];
  all = λ t r has in_row c. elim (Contains-push_cases done s t has) [
    | inl old ↦ Contains-append_left found adds.row r (rows.all t r old in_row c)
    | inr this ↦ Contains-append_right found adds.row r ((adds.exactly.exactly r).1 (c, subst (λ x. IsInRow b x r) (sym this) in_row))
  ];
})
  where
    across : (x y : ℕ) → Contains found x → Contains adds.row y → x < y
    across x y in_found in_row =
        let old = (rows.each x in_found).1 in
        let t = old.0 in
        let below : suc t * gate_count b ≤ s * gate_count b = mul-le-mul_right (gate_count b) (earlier t old.1) in
        let high : x ≤ t * gate_count b + gate_count b = old.2.1 in
        let low : s * gate_count b < y = ((adds.exactly.exactly y).0 in_row).1.0 in
        omega arith

-- all rows have all candidates
pub rows_all : (b : Limits) → IsLawful b → (parts found : List ℕ) → RowsFound b parts parts found → ListsExactly (IsCandidate b parts) found
rows_all b lawful parts found rows = record {
  rising = increasing_from_rises found rows.rising;
  exactly = λ r. (λ has. (rows.each r has).0, λ c. let row = candidate_in_row b lawful parts r c in rows.all row.0 r row.1 row.2 c);
}
