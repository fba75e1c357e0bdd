-- Representatives are kept, and a circuit that is none has a kept part that is none.
use Rattle.std.proofs.Common.{◌≡◌, ℕ, zero, suc, ◌-◌, ◌<◌, ◌≤◌, true, [], ◌++◌, length, take, drop, ◌⊎◌, inl, inr, sym, ap, subst, ◌∙◌, arith, append_assoc, length-drop, length-take}
use Rattle.std.proofs.lemmas.List.{append-nil, nil_from_length, take-append-drop}
use Rattle.qz_circ.specs.Circuit.{Circuit, Limits, Within}
use Rattle.qz_circ.specs.Bounds.{IsLawful}
use Rattle.qz_circ.specs.Equivalence.{Equivalent}
use Rattle.qz_circ.specs.Order.{is_before, rank}
use Rattle.qz_circ.specs.Classes.{IsRepresentative, IsKept, without_first, without_last}
use Rattle.qz_circ.proofs.CircuitPlaces.{within-drop, within-take}
use Rattle.qz_circ.proofs.RankLemmas.{before_by_rank}
use Rattle.qz_paths.proofs.Equivalences.{transitive}
use Rattle.qz_paths.proofs.Parts.{part_representative}

-- a circuit by its first gates and the others, with nothing after them
first_and_rest : (n : ℕ) (c : Circuit) → take n c ++ drop n c ++ [] ≡ c
first_and_rest n c = append-nil (take n c ++ drop n c) ∙ take-append-drop n c

-- without its first gate a representative is one
without_first_representative : (b : Limits) (c : Circuit) → IsRepresentative b c → IsRepresentative b (without_first c)
without_first_representative b c least = part_representative b (take 1 c) (drop 1 c) [] (subst (IsRepresentative b) (sym (first_and_rest 1 c)) least)

-- and without its last
without_last_representative : (b : Limits) (c : Circuit) → IsRepresentative b c → IsRepresentative b (without_last c)
without_last_representative b c least =
    let n = length c - 1 in
    part_representative b [] (take n c) (drop n c) (subst (IsRepresentative b) (sym (take-append-drop n c)) least)

-- so each representative is kept
pub representative_kept : (b : Limits) (c : Circuit) → IsRepresentative b c → IsKept b c
representative_kept b c least = record { within = least.within; parts = inr (without_first_representative b c least, without_last_representative b c least) }

module _ (b : Limits) (lawful : IsLawful b) where
  -- a circuit to which no earlier representative is equivalent is one
  pub representative_from_representatives : (c : Circuit) → Within b c → ((d : Circuit) → IsRepresentative b d → is_before d c ≡ true → Equivalent b.q d c → ⊥) → IsRepresentative b c
  representative_from_representatives c within none = record {
    within = within;
    first = λ d within_d before same. lower (suc (rank b d)) d within_d (omega arith) before same;
  }
    where
      lower : (bound : ℕ) (d : Circuit) → Within b d → rank b d < bound → is_before d c ≡ true → Equivalent b.q d c → ⊥
      lower zero d within_d less before same = absurd (omega arith)
      lower (suc bound) d within_d less before same = none d (record {
        within = within_d;
        first = λ e within_e before_e same_e.
            let first = (before_by_rank b lawful e d within_e within_d).0 before_e in
            let second = (before_by_rank b lawful d c within_d within).0 before in
            let both : rank b e < rank b c = omega arith in
            lower bound e within_e (omega arith) ((before_by_rank b lawful e c within_e within).1 both) (transitive b.q e d c same_e same);
      }) before same

-- a part of a circuit that is kept and no representative
pub record KeptPart (b : Limits) (c : Circuit) : Type 0 where
  pub front : Circuit
  pub part : Circuit
  pub back : Circuit
  pub is : c ≡ front ++ part ++ back
  pub kept : IsKept b part
  pub later : IsRepresentative b part → ⊥

-- such a part of a part
in_part : (b : Limits) (front part back c : Circuit) → c ≡ front ++ part ++ back → KeptPart b part → KeptPart b c
in_part b front part back c is found = record {
  front = front ++ found.front;
  part = found.part;
  back = found.back ++ back;
  is = is ∙ ap (λ p. front ++ p ++ back) found.is ∙ regroup front found.front found.part found.back back;
  kept = found.kept;
  later = found.later;
}
  where
    regroup : (f g p k l : Circuit) → f ++ (g ++ p ++ k) ++ l ≡ (f ++ g) ++ p ++ (k ++ l)
    regroup f g p k l = simp append_assoc

-- each circuit that is no representative has one, where it is known which circuits are representatives
pub kept_part : (b : Limits) → ((c : Circuit) → Within b c → IsRepresentative b c ⊎ (IsRepresentative b c → ⊥)) → (bound : ℕ) (c : Circuit) → length c ≤ bound → Within b c → (IsRepresentative b c → ⊥) → KeptPart b c
kept_part b known zero c few within later =
    let empty : c ≡ [] = nil_from_length c (omega arith) in
    record { front = []; part = c; back = []; is = sym (append-nil c); kept = record { within = within; parts = inl empty }; later = later }
kept_part b known (suc bound) c few within later =
    elim (known (without_first c) (within-drop b 1 c within)) [
      | inr none ↦ in_part b (take 1 c) (without_first c) [] c (sym (first_and_rest 1 c)) (kept_part b known bound (without_first c) (omega (arith, length-drop 1 c)) (within-drop b 1 c within) none)
      | inl first ↦ elim (known (without_last c) (within-take b (length c - 1) c within)) [
        | inr none ↦ in_part b [] (without_last c) (drop (length c - 1) c) c (sym (take-append-drop (length c - 1) c))
            (kept_part b known bound (without_last c) (omega (arith, length-take (length c - 1) c)) (within-take b (length c - 1) c within) none)
        | inl last ↦ record { front = []; part = c; back = []; is = sym (append-nil c); kept = record { within = within; parts = inr (first, last) }; later = later }
      ]
    ]
