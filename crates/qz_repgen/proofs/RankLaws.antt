-- What ranks say of representatives, kept circuits and members.
use Rattle.std.proofs.Common.{◌≡◌, ℕ, ◌<◌, true, length, sym, ap, subst, ◌∙◌, arith}
use Rattle.qz_circ.specs.Circuit.{Circuit, Limits, Within}
use Rattle.qz_circ.specs.Equivalence.{Equivalent}
use Rattle.qz_circ.specs.Order.{is_before, all_circuits, rank, circuit_at}
use Rattle.qz_circ.specs.Classes.{IsRepresentative, IsKept, IsRepresentativeRank, IsMemberRank}
use Rattle.qz_paths.proofs.Least.{representative_kept}

-- ranks are places in the order of the circuits within limits
pub record RanksAreOrder (b : Limits) : Type 0 where
  pub at_rank : (c : Circuit) → Within b c → circuit_at b (rank b c) ≡ c
  pub below : (c : Circuit) → Within b c → rank b c < length (all_circuits b)
  pub within_at : (r : ℕ) → r < length (all_circuits b) → Within b (circuit_at b r)
  pub rank_at : (r : ℕ) → r < length (all_circuits b) → rank b (circuit_at b r) ≡ r
  pub rises : (c d : Circuit) → Within b c → Within b d → is_before c d ≡ true → rank b c < rank b d
  pub rises_only : (c d : Circuit) → Within b c → Within b d → rank b c < rank b d → is_before c d ≡ true

module _ (b : Limits) (ranks : RanksAreOrder b) where
  -- a representative's rank is a rank, and at it is a representative
  pub representative_below : (r : ℕ) → IsRepresentativeRank b r → r < length (all_circuits b)
  representative_below r h = subst (λ x. x < length (all_circuits b)) h.ranked (ranks.below h.circuit h.representative.within)

  -- the circuit at the rank of a circuit is this circuit
  pub circuit_is : (r : ℕ) (c : Circuit) → Within b c → rank b c ≡ r → circuit_at b r ≡ c
  circuit_is r c within ranked = ap (circuit_at b) (sym ranked) ∙ ranks.at_rank c within

  -- the circuit at the rank of a representative is one
  pub representative_at : (r : ℕ) → IsRepresentativeRank b r → IsRepresentative b (circuit_at b r)
  representative_at r h = subst (IsRepresentative b) (sym (circuit_is r h.circuit h.representative.within h.ranked)) h.representative

  -- and a representative there makes its rank one
  pub representative_from : (r : ℕ) → r < length (all_circuits b) → IsRepresentative b (circuit_at b r) → IsRepresentativeRank b r
  representative_from r below h = record { circuit = circuit_at b r; representative = h; ranked = ranks.rank_at r below }

  -- a part whose rank is a representative's is one
  pub known_representative : (part : Circuit) → Within b part → IsRepresentativeRank b (rank b part) → IsRepresentative b part
  known_representative part within h = subst (IsRepresentative b) (ranks.at_rank part within) (representative_at (rank b part) h)

  -- the circuit at the rank of a representative is kept
  representative_kept_at : (r : ℕ) → IsRepresentativeRank b r → IsKept b (circuit_at b r)
  representative_kept_at r h = representative_kept b (circuit_at b r) (representative_at r h)

  -- an equivalent circuit with a lower rank makes it none
  pub is_no_representative : (s r : ℕ) → s < r → r < length (all_circuits b) → Equivalent b.q (circuit_at b s) (circuit_at b r) → IsRepresentativeRank b r → ⊥
  is_no_representative s r lower below same h =
      let lower_ranks : rank b (circuit_at b s) < rank b (circuit_at b r) = omega (arith, lower, ranks.rank_at s (omega arith), ranks.rank_at r below) in
      (representative_at r h).first (circuit_at b s) (ranks.within_at s (omega arith))
      (ranks.rises_only (circuit_at b s) (circuit_at b r) (ranks.within_at s (omega arith)) (ranks.within_at r below) lower_ranks) same

  -- members by their ranks
  pub member_below : (r s : ℕ) → IsMemberRank b r s → s < length (all_circuits b)
  member_below r s h = subst (λ x. x < length (all_circuits b)) h.ranked (ranks.below h.member h.kept.within)

  -- the circuit at the rank of a member is kept
  pub member_kept : (r s : ℕ) → IsMemberRank b r s → IsKept b (circuit_at b s)
  member_kept r s h = subst (IsKept b) (sym (circuit_is s h.member h.kept.within h.ranked)) h.kept

  -- and equivalent to that of the representative
  pub member_equivalent : (r s : ℕ) → IsMemberRank b r s → Equivalent b.q (circuit_at b s) (circuit_at b r)
  member_equivalent r s h =
      let member = circuit_is s h.member h.kept.within h.ranked in
      let circuit = circuit_is r h.representative.circuit h.representative.representative.within h.representative.ranked in
      subst (λ x. Equivalent b.q (circuit_at b s) x) (sym circuit) (subst (λ x. Equivalent b.q x h.representative.circuit) (sym member) h.equivalent)

  -- a kept circuit that is equivalent to a representative makes its rank a member
  pub member_from : (r s : ℕ) → s < length (all_circuits b) → IsRepresentativeRank b r → IsKept b (circuit_at b s) → Equivalent b.q (circuit_at b s) (circuit_at b r) → IsMemberRank b r s
  member_from r s below h kept same = record {
    representative = h;
    member = circuit_at b s;
    kept = kept;
    ranked = ranks.rank_at s below;
    equivalent = subst (λ x. Equivalent b.q (circuit_at b s) x) (circuit_is r h.circuit h.representative.within h.ranked) same;
  }

  -- no member has a lower rank than its representative
  member_not_lower : (r s : ℕ) → IsMemberRank b r s → s < r → ⊥
  member_not_lower r s h lower = is_no_representative s r lower (representative_below r h.representative) (member_equivalent r s h) h.representative
