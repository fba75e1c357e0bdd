-- The candidates of the representatives of k gates are the kept circuits of one gate more.
use Rattle.std.proofs.Common.{◌≡◌, ℕ, zero, suc, ◌+◌, ◌-◌, ◌<◌, ◌≤◌, List, [], length, ◌⊎◌, inl, inr, refl, sym, ap, subst, ◌∙◌, arith, length-drop, length-take}
use Rattle.std.specs.Prelude.{Contains}
use Rattle.std.proofs.Math.Nat.{eq-or-lt_of_le}
use Rattle.std.proofs.lemmas.Bool.{cases_lt}
use Rattle.qz_circ.specs.Circuit.{Circuit, Limits, Within}
use Rattle.qz_circ.specs.Bounds.{IsLawful}
use Rattle.qz_circ.specs.Order.{all_circuits, rank, circuit_at}
use Rattle.qz_circ.specs.Classes.{IsRepresentative, IsKept, ListsExactly, without_first, without_last}
use Rattle.qz_circ.proofs.CircuitPlaces.{circuit_at-zero, all_contains}
use Rattle.qz_paths.proofs.Parts.{before_not_longer}
use Rattle.qz_repgen.specs.Candidate.{AreOfOneLength, IsCandidate}
use Rattle.qz_repgen.specs.Rounds.{IsRepresentativeOf, IsKeptOf, IsKeptUpTo}
use Rattle.qz_repgen.proofs.CandidateRows.{candidate_circuit, candidate_listed}
use Rattle.qz_repgen.proofs.LowerLaws.{ranks_are_order, first_within, last_within}
use Rattle.qz_repgen.proofs.RankLaws.{representative_below, known_representative}
use Rattle.qz_repgen.proofs.RankRows.{some_gates}

-- there is a circuit
pub some_circuit : (b : Limits) → 0 < length (all_circuits b)
some_circuit b = let has = all_contains b [] (record { short = omega arith; gates = tt }) in omega (arith, has.1)

module _ (b : Limits) (lawful : IsLawful b) where
  -- a circuit that comes later is not shorter
  pub longer_later : (s t : ℕ) → s ≤ t → t < length (all_circuits b) → length (circuit_at b s) ≤ length (circuit_at b t)
  longer_later s t order listed = elim (eq-or-lt_of_le order) [
    | inl same ↦ omega (arith, ap (λ x. length (circuit_at b x)) same)
    | inr before ↦
        let ranks = ranks_are_order b lawful in
        let lower : rank b (circuit_at b s) < rank b (circuit_at b t) = omega (arith, ranks.rank_at s (omega arith), ranks.rank_at t listed) in
        let earlier = ranks.rises_only (circuit_at b s) (circuit_at b t) (ranks.within_at s (omega arith)) (ranks.within_at t listed) lower in
        before_not_longer (circuit_at b s) (circuit_at b t) earlier
  ]

  -- the empty circuit is the only kept one of no gate
  pub empty_kept : IsKeptUpTo b 0 0
  empty_kept = record {
    listed = some_circuit b;
    kept = record { within = (ranks_are_order b lawful).within_at 0 (some_circuit b); parts = inl (circuit_at-zero b) };
    short = omega (arith, ap length (circuit_at-zero b));
  }

  pub only_empty : (r : ℕ) → IsKeptUpTo b 0 r → 0 ≡ r
  only_empty zero h = refl
  only_empty (suc r) h = absurd (omega (arith, h.short, some_gates b lawful (suc r) (omega arith) h.listed))

  module _ (k : ℕ) (parts : List ℕ) (exactly : ListsExactly (IsRepresentativeOf b k) parts) where
    -- they are of one length
    pub of_one_length : k < b.n → AreOfOneLength b parts
    of_one_length short = record {
      listed = λ r has. representative_below b (ranks_are_order b lawful) r ((exactly.exactly r).0 has).representative;
      short = λ r has. omega (arith, ((exactly.exactly r).0 has).long);
      same = λ r s has_r has_s. ((exactly.exactly r).0 has_r).long ∙ sym ((exactly.exactly s).0 has_s).long;
    }

    -- a part whose rank is listed is a representative of k gates
    listed_part : (part : Circuit) → Within b part → Contains parts (rank b part) → IsRepresentative b part × (length part ≡ k)
    listed_part part within has =
        let ranks = ranks_are_order b lawful in
        let facts = (exactly.exactly (rank b part)).0 has in
        (known_representative b ranks part within facts.representative, sym (ap length (ranks.at_rank part within)) ∙ facts.long)

    -- and such a part is listed
    part_listed : (part : Circuit) → IsRepresentative b part → length part ≡ k → Contains parts (rank b part)
    part_listed part least long =
        let ranks = ranks_are_order b lawful in
        (exactly.exactly (rank b part)).1 (record { representative = record { circuit = part; representative = least; ranked = refl }; long = ap length (ranks.at_rank part least.within) ∙ long })

    -- a candidate is a kept circuit of one gate more
    candidate_kept : (r : ℕ) → IsCandidate b parts r → IsKeptOf b (k + 1) r
    candidate_kept r c =
        let here = candidate_circuit b lawful parts r c in
        let first = listed_part (without_first c.circuit) (first_within b c.circuit c.within) c.first in
        let last = listed_part (without_last c.circuit) (last_within b c.circuit c.within) c.last in
        let kept : IsKept b c.circuit = record { within = c.within; parts = inr (first.0, last.0) } in
        record {
          listed = candidate_listed b lawful parts r c;
          kept = subst (IsKept b) (sym here) kept;
          long = omega (arith, ap length here, last.1, c.some, length-take (length c.circuit - 1) c.circuit);
        }

    -- and each of them is one
    kept_candidate : (r : ℕ) → IsKeptOf b (k + 1) r → IsCandidate b parts r
    kept_candidate r h =
        let c = circuit_at b r in
        elim h.kept.parts [
          | inl empty ↦ absurd (omega (arith, ap length empty, h.long))
          | inr both ↦ record {
            circuit = c;
            within = h.kept.within;
            some = omega (arith, h.long);
            ranked = (ranks_are_order b lawful).rank_at r h.listed;
            first = part_listed (without_first c) both.0 (omega (arith, h.long, length-drop 1 c));
            last = part_listed (without_last c) both.1 (omega (arith, h.long, length-take (length c - 1) c));
          }
        ]

    -- so they are listed where the candidates are
    pub candidates_are_kept : (left : List ℕ) → ListsExactly (IsCandidate b parts) left → ListsExactly (IsKeptOf b (k + 1)) left
    candidates_are_kept left lists = record {
      rising = lists.rising;
      exactly = λ r. (λ has. candidate_kept r ((lists.exactly r).0 has), λ h. (lists.exactly r).1 (kept_candidate r h));
    }

  -- the kept circuits of at most k + 1 gates are those of at most k and those of k + 1
  pub kept_up_to_next : (k r : ℕ) → IsKeptUpTo b (k + 1) r → IsKeptUpTo b k r ⊎ IsKeptOf b (k + 1) r
  kept_up_to_next k r h = elim (cases_lt k (length (circuit_at b r))) [
    | inl long ↦ inr (record { listed = h.listed; kept = h.kept; long = omega (arith, h.short) })
    | inr short ↦ inl (record { listed = h.listed; kept = h.kept; short = short })
  ]

  pub kept_up_to_more : (k r : ℕ) → IsKeptUpTo b k r → IsKeptUpTo b (k + 1) r
  kept_up_to_more k r h = record { listed = h.listed; kept = h.kept; short = omega (arith, h.short) }

  pub kept_of_next : (k r : ℕ) → IsKeptOf b (k + 1) r → IsKeptUpTo b (k + 1) r
  kept_of_next k r h = record { listed = h.listed; kept = h.kept; short = omega (arith, h.long) }
