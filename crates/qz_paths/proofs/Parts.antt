-- Parts of circuits within limits: an earlier equivalent part makes an earlier equivalent circuit, so a part of a representative is one.
use Rattle.std.proofs.Common.{◌≡◌, ◌+◌, ◌<◌, ◌≤◌, true, List, [], ◌∷◌, ◌++◌, length, ◌⊎◌, inl, inr, refl, sym, ap, ◌∙◌, arith, length-append, Contains, is_lt, Less, Equal, Greater}
use Rattle.std.specs.List.{AllByRecursion}
use Rattle.std.specs.declared.cmp.Ordering.{Ordering}
use Rattle.std.specs.Ordering.{nat_cmp, ordering_then}
use Rattle.std.specs.Cmp.{tied_itself}
use Rattle.std.specs.Cmp.Lexicographic.{slice_cmp}
use Rattle.std.proofs.lemmas.Bool.{cases_order}
use Rattle.std.proofs.lemmas.Bool.Decides.{nat_tests}
use Rattle.qz_circ.specs.Circuit.{Circuit, Limits, Within, ActsBelow, gates_of}
use Rattle.qz_circ.specs.Equivalence.{Equivalent}
use Rattle.qz_circ.specs.Order.{gate_cmp, circuit_cmp, is_before}
use Rattle.qz_circ.specs.Classes.{IsRepresentative}
use Rattle.qz_circ.proofs.RisingLists.{each_weaker, each-append}
use Rattle.qz_circ.proofs.GateNumbers.{gate_cmp-total, less_is, gate_below}
use Rattle.qz_circ.proofs.RankLemmas.{shorter_before, same_length_before}
use Rattle.qz_paths.proofs.Congruence.{congruent_circuits}

-- ---- within limits

-- what holds of each element of two lists end to end holds of those of the first
each-front : {A : Type 0} (P : A → Type 0) (xs ys : List A) → AllByRecursion P (xs ++ ys) → AllByRecursion P xs
each-front P [] ys h = tt
each-front P (x ∷ xs) ys h = (h.0, each-front P xs ys h.1)

-- and of the second
each-back : {A : Type 0} (P : A → Type 0) (xs ys : List A) → AllByRecursion P (xs ++ ys) → AllByRecursion P ys
each-back P [] ys h = h
each-back P (x ∷ xs) ys h = each-back P xs ys h.1

-- how long three parts are
length_around : {A : Type 0} (front part back : List A) → length (front ++ part ++ back) ≡ length front + length part + length back
length_around front part back = omega (arith, length-append (front ++ part) back, length-append front part)

module _ (b : Limits) (front part back : Circuit) (whole : Within b (front ++ part ++ back)) where
  -- the gates before a part are within the limits
  within-front : Within b front
  within-front = record {
    short = omega (arith, length_around front part back, whole.short);
    gates = each-front _ front part (each-front _ (front ++ part) back whole.gates);
  }

  -- and the part
  within-part : Within b part
  within-part = record {
    short = omega (arith, length_around front part back, whole.short);
    gates = each-back _ front part (each-front _ (front ++ part) back whole.gates);
  }

  -- and the gates after it
  within-back : Within b back
  within-back = record {
    short = omega (arith, length_around front part back, whole.short);
    gates = each-back _ (front ++ part) back whole.gates;
  }

  -- and the circuit with another part in its place that is no longer
  pub within-replaced : (d : Circuit) → Within b d → length d ≤ length part → Within b (front ++ d ++ back)
  within-replaced d within less = record {
    short = omega (arith, length_around front part back, length_around front d back, whole.short);
    gates = each-append _ (front ++ d) back (each-append _ front d within-front.gates within.gates) within-back.gates;
  }

-- gates within limits act on their qubits
acts_within : (b : Limits) (c : Circuit) → Within b c → AllByRecursion (ActsBelow b.q) c
acts_within b c within = each_weaker (Contains (gates_of b)) (ActsBelow b.q) (λ g has. (gate_below b g has).0) c within.gates

-- ---- the order

-- gates in front of both leave the comparison of what follows
cmp-front : (front c d : Circuit) → slice_cmp gate_cmp (front ++ c) (front ++ d) ≡ slice_cmp gate_cmp c d
cmp-front [] c d = refl
cmp-front (g ∷ front) c d = ap (λ r. ordering_then r (slice_cmp gate_cmp (front ++ c) (front ++ d))) (tied_itself gate_cmp-total g) ∙ cmp-front front c d

-- gates after two equally long circuits leave the first of them the lesser
cmp-back : (c d back : Circuit) → length c ≡ length d → slice_cmp gate_cmp c d ≡ Less → slice_cmp gate_cmp (c ++ back) (d ++ back) ≡ Less
cmp-back [] [] back same less = cc
cmp-back [] (g ∷ d) back same less = absurd (omega arith)
cmp-back (f ∷ c) [] back same less = absurd (omega arith)
cmp-back (f ∷ c) (g ∷ d) back same less = by (gate_cmp f g) less (cmp-back c d back (omega arith))
  where
    by : (r : Ordering) → ordering_then r (slice_cmp gate_cmp c d) ≡ Less → (slice_cmp gate_cmp c d ≡ Less → slice_cmp gate_cmp (c ++ back) (d ++ back) ≡ Less) → ordering_then r (slice_cmp gate_cmp (c ++ back) (d ++ back)) ≡ Less
    by Less less rest = refl
    by Equal less rest = rest less
    by Greater less rest = cc

-- an earlier circuit is shorter, or as long with the lesser gates
before_cases : (c d : Circuit) → is_before c d ≡ true → (length c < length d) ⊎ ((length c ≡ length d) × (slice_cmp gate_cmp c d ≡ Less))
unfolding circuit_cmp
before_cases c d before = by (cases_order (length c) (length d))
  where
    decided : (r : Ordering) → nat_cmp (length c) (length d) ≡ r → ordering_then r (slice_cmp gate_cmp c d) ≡ Less
    decided r is = ap (λ x. ordering_then x (slice_cmp gate_cmp c d)) (sym is) ∙ less_is (ordering_then (nat_cmp (length c) (length d)) (slice_cmp gate_cmp c d)) before

    by : (length c ≡ length d) ⊎ ((length c < length d) ⊎ (length d < length c)) → (length c < length d) ⊎ ((length c ≡ length d) × (slice_cmp gate_cmp c d ≡ Less))
    by (inl same) = inr (same, decided Equal (grind (arith, nat_tests)))
    by (inr (inl less)) = inl less
    by (inr (inr more)) = let greater = decided Greater (grind (arith, nat_tests)) in absurd cc

-- so it is not longer
pub before_not_longer : (c d : Circuit) → is_before c d ≡ true → length c ≤ length d
before_not_longer c d before = elim (before_cases c d before) [ inl less ↦ omega arith | inr tied ↦ omega (arith, tied.0) ]

-- an earlier part makes an earlier circuit
pub before-replaced : (front c d back : Circuit) → is_before c d ≡ true → is_before (front ++ c ++ back) (front ++ d ++ back) ≡ true
before-replaced front c d back before = elim (before_cases c d before) [
  | inl less ↦ shorter_before (length (front ++ c ++ back)) (length (front ++ d ++ back)) (front ++ c ++ back) (front ++ d ++ back) refl refl
      (omega (arith, length_around front c back, length_around front d back))
  | inr tied ↦
      let lengths : length (front ++ c ++ back) ≡ length (front ++ d ++ back) = omega (arith, length_around front c back, length_around front d back, tied.0) in
      let parts : length (front ++ c) ≡ length (front ++ d) = omega (arith, length-append front c, length-append front d, tied.0) in
      let less = cmp-back (front ++ c) (front ++ d) back parts (cmp-front front c d ∙ tied.1) in
      same_length_before (length (front ++ d ++ back)) (front ++ c ++ back) (front ++ d ++ back) lengths refl (ap is_lt less)
]

-- ---- equivalence

-- an equivalent part makes an equivalent circuit
pub equivalent-replaced : (b : Limits) (front c d back : Circuit) → Within b (front ++ d ++ back) → Within b c → Equivalent b.q c d → Equivalent b.q (front ++ c ++ back) (front ++ d ++ back)
equivalent-replaced b front c d back whole within same =
    congruent_circuits b.q front back c d (acts_within b front (within-front b front d back whole)) (acts_within b back (within-back b front d back whole))
    (acts_within b c within) (acts_within b d (within-part b front d back whole)) same

-- a part of a representative is one
pub part_representative : (b : Limits) (front part back : Circuit) → IsRepresentative b (front ++ part ++ back) → IsRepresentative b part
part_representative b front part back least = record {
  within = within-part b front part back least.within;
  first = λ d within before same.
      least.first (front ++ d ++ back) (within-replaced b front part back least.within d within (before_not_longer d part before))
      (before-replaced front d part back before) (equivalent-replaced b front d part back least.within within same);
}
