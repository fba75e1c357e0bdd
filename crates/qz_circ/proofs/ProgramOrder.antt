-- The order of program circuits is total, tells all circuits apart, and has a cheaper circuit earlier.
use Rattle.std.proofs.Common.{◌≡◌, ◌<◌, ◌≤◌, ◌+◌, ◌*◌, ℕ, zero, suc, true, false, List, [], ◌∷◌, ◌++◌, length, take, get_or, refl, sym, ap, ◌∙◌, Less, Equal, Greater, arith}
use Rattle.std.specs.declared.cmp.Ordering.{Ordering}
use Rattle.std.specs.Ordering.{nat_cmp, ordering_then, is_gt, is_eq, is_ne, eq_by_cmp}
use Rattle.std.specs.Prelude.{slice_index_or}
use Rattle.std.specs.List.{AllByRecursion}
use Rattle.std.specs.Cmp.{IsTotalOrder, both_ways}
use Rattle.std.specs.Cmp.Lexicographic.{slice_cmp}
use Rattle.std.proofs.lemmas.Bool.Decides.{nat_tests}
use Rattle.std.proofs.lemmas.Cmp.{on_total, then_total, nat_cmp_total, nat_list_cmp_total, lists_total, tied_itself}
use Rattle.std.proofs.lemmas.Map.Lookups.{CmpEqualImpliesEq, exact_bytes}
use Rattle.qz_circ.specs.declared.circuit.Inst.{Inst}
use Rattle.qz_circ.specs.declared.circuit.Inst.TheVariants.{H, X, Cx, Rz}
use Rattle.qz_circ.proofs.DerivedOrders.{then_again}
use Rattle.qz_circ.specs.ProgramCircuits.{ProgramCircuit, AreWeights, IsWeight, ones, weight, cost, program_gate_key, program_gate_cmp, program_cmp}

gate_total : IsTotalOrder program_gate_cmp
unfolding program_gate_cmp
gate_total = on_total program_gate_key nat_list_cmp_total

-- two answers in turn are `Equal` only where both are
both_equal : (a b : Ordering) → ordering_then a b ≡ Equal → (a ≡ Equal) × (b ≡ Equal)
both_equal Less b h = cc
both_equal Equal b h = (refl, h)
both_equal Greater b h = cc

lists_exact : {K : Type 0} (R : K → K → Ordering) → CmpEqualImpliesEq R → CmpEqualImpliesEq (slice_cmp R)
lists_exact R e [] [] h = refl
lists_exact R e [] (y ∷ ys) h = cc
lists_exact R e (x ∷ xs) [] h = cc
lists_exact R e (x ∷ xs) (y ∷ ys) h =
    let both = both_equal (R x y) (slice_cmp R xs ys) h in
    let first : x ≡ y = e x y both.0 in
    let rest : xs ≡ ys = lists_exact R e xs ys both.1 in
    cc

keys_exact : (f g : Inst) → program_gate_key f ≡ program_gate_key g → f ≡ g
keys_exact (H s) (H t) h = cc
keys_exact (X s) (X t) h = cc
keys_exact (Cx b s) (Cx c t) h = cc
keys_exact (Rz s j) (Rz t k) h = cc
keys_exact f g h = cc

gate_exact : CmpEqualImpliesEq program_gate_cmp
unfolding program_gate_cmp
gate_exact f g h = keys_exact f g (exact_bytes (program_gate_key f) (program_gate_key g) h)

first_decides : (m n : ℕ) (rest : Ordering) → is_gt (ordering_then (nat_cmp m n) rest) ≡ false → m ≤ n
first_decides m n rest h = grind (arith, nat_tests)

less_first : (m n : ℕ) (rest : Ordering) → m < n → ordering_then (nat_cmp m n) rest ≡ Less
less_first m n rest h = grind (arith, nat_tests)

then_first : (r s : Ordering) → is_ne r ≡ true → r ≡ ordering_then r s
then_first Less s h = refl
then_first Equal s h = cc
then_first Greater s h = refl

-- numbers that compare as equal are
same_numbers : (m n : ℕ) (r : Ordering) → r ≡ nat_cmp m n → is_ne r ≡ false → m ≡ n
same_numbers m n r h e = grind (arith, nat_tests)

-- where the first numbers are equal, the rest decides
then_second : (m n : ℕ) (rest : Ordering) → m ≡ n → ordering_then (nat_cmp m n) rest ≡ rest
then_second m n rest h = (λ i. ordering_then (nat_cmp (h i) n) rest) ∙ (λ i. ordering_then (tied_itself nat_cmp_total n i) rest)

module _ (ws : List ℕ) where
  -- the order is total
  pub program_cmp_total : IsTotalOrder (program_cmp ws)
  unfolding program_cmp
  program_cmp_total =
      then_total (on_total (cost ws) nat_cmp_total) (then_total (on_total length nat_cmp_total) (lists_total gate_total))

  -- circuits that compare as equal are equal
  pub program_cmp_exact : CmpEqualImpliesEq (program_cmp ws)
  unfolding program_cmp
  program_cmp_exact c d h =
      let after_cost = both_equal (nat_cmp (cost ws c) (cost ws d)) _ h in
      let after_length = both_equal (nat_cmp (length c) (length d)) _ after_cost.1 in
      lists_exact program_gate_cmp gate_exact c d after_length.1

  -- a circuit that isn't later isn't dearer
  pub not_dearer : (c d : ProgramCircuit) → is_gt (program_cmp ws c d) ≡ false → cost ws c ≤ cost ws d
  unfolding program_cmp
  not_dearer c d h = first_decides (cost ws c) (cost ws d) _ h

  -- nor longer, where it is as dear
  pub not_longer : (c d : ProgramCircuit) → cost ws c ≡ cost ws d → is_gt (program_cmp ws c d) ≡ false → length c ≤ length d
  unfolding program_cmp
  not_longer c d e h =
      first_decides (length c) (length d) _ (ap is_gt (sym (then_second (cost ws c) (cost ws d) _ e)) ∙ h)

  -- a cheaper circuit is earlier
  pub cheaper_earlier : (c d : ProgramCircuit) → cost ws c < cost ws d → program_cmp ws c d ≡ Less
  unfolding program_cmp
  cheaper_earlier c d h = less_first (cost ws c) (cost ws d) _ h

  -- and a shorter one of two that are as dear
  pub shorter_earlier : (c d : ProgramCircuit) → cost ws c ≡ cost ws d → length c < length d → program_cmp ws c d ≡ Less
  unfolding program_cmp
  shorter_earlier c d e h = then_second (cost ws c) (cost ws d) _ e ∙ less_first (length c) (length d) _ h

  -- of two that are as dear and as long the gates decide
  pub gates_decide : (c d : ProgramCircuit) → cost ws c ≡ cost ws d → length c ≡ length d → program_cmp ws c d ≡ slice_cmp program_gate_cmp c d
  unfolding program_cmp
  gates_decide c d e f = then_second (cost ws c) (cost ws d) _ e ∙ then_second (length c) (length d) _ f

  -- where one is dearer, the costs decide
  pub dear_decides : (c d : ProgramCircuit) (r : Ordering) → r ≡ nat_cmp (cost ws c) (cost ws d) → is_ne r ≡ true → r ≡ program_cmp ws c d
  unfolding program_cmp
  dear_decides c d r e h =
      then_first r _ h ∙ (λ i. ordering_then (e i) (ordering_then (nat_cmp (length c) (length d)) (slice_cmp program_gate_cmp c d)))

  pub as_dear : (c d : ProgramCircuit) (r : Ordering) → r ≡ nat_cmp (cost ws c) (cost ws d) → is_ne r ≡ false → cost ws c ≡ cost ws d
  as_dear c d r e h = same_numbers (cost ws c) (cost ws d) r e h

  -- ---- costs

  -- a circuit of two parts costs what they do
  pub cost-append : (c d : ProgramCircuit) → cost ws (c ++ d) ≡ cost ws c + cost ws d
  unfolding cost
  cost-append [] d = omega arith
  cost-append (g ∷ c) d = omega (arith, cost-append c d)

  one_more : (c : ProgramCircuit) (k : ℕ) (d : Inst) → k < length c → cost ws (take (suc k) c) ≡ cost ws (take k c) + weight ws (get_or c k d)
  unfolding cost
  one_more [] k d l = absurd (omega arith)
  one_more (g ∷ c) zero d l = omega arith
  one_more (g ∷ c) (suc k) d l = omega (arith, one_more c k d (omega arith))

  -- one gate more
  pub cost_more : (c : ProgramCircuit) (k w : ℕ) (d : Inst) → w ≡ weight ws (get_or c k d) → k < length c → cost ws (take (k + 1) c) ≡ cost ws (take k c) + w
  cost_more c k w d e l = let one : k + 1 ≡ suc k = omega arith in rw one (omega (arith, one_more c k d l, e))

pub equal_is : (r : Ordering) → is_eq r ≡ true → r ≡ Equal
equal_is Less h = cc
equal_is Equal h = refl
equal_is Greater h = cc

-- whether two circuits are equal doesn't depend on weights
pub same_test : (ws vs : List ℕ) (c d : ProgramCircuit) → eq_by_cmp (program_cmp ws) c d ≡ eq_by_cmp (program_cmp vs) c d
same_test ws vs c d = both_ways (eq_by_cmp (program_cmp ws) c d) (eq_by_cmp (program_cmp vs) c d) (same ws vs) (same vs ws)
  where
    same : (us ts : List ℕ) → eq_by_cmp (program_cmp us) c d ≡ true → eq_by_cmp (program_cmp ts) c d ≡ true
    same us ts e =
        let alike : c ≡ d = program_cmp_exact us c d (equal_is (program_cmp us c d) e) in
        (λ i. eq_by_cmp (program_cmp ts) (alike i) d) ∙ ap is_eq (tied_itself (program_cmp_total ts) d)

-- by four ones a circuit costs its number of gates
pub cost_ones : (c : ProgramCircuit) → cost ones c ≡ length c
unfolding cost
cost_ones [] = refl
cost_ones (H t ∷ c) = omega (arith, cost_ones c)
cost_ones (X t ∷ c) = omega (arith, cost_ones c)
cost_ones (Cx b t ∷ c) = omega (arith, cost_ones c)
cost_ones (Rz t k ∷ c) = omega (arith, cost_ones c)

-- and so they compare by length, and then by gates
pub by_ones : (c d : ProgramCircuit) → program_cmp ones c d ≡ ordering_then (nat_cmp (length c) (length d)) (slice_cmp program_gate_cmp c d)
unfolding program_cmp
by_ones c d =
    let rest = ordering_then (nat_cmp (length c) (length d)) (slice_cmp program_gate_cmp c d) in
    (λ i. ordering_then (nat_cmp (cost_ones c i) (cost_ones d i)) rest) ∙ sym (then_again (nat_cmp (length c) (length d)) (slice_cmp program_gate_cmp c d))

-- of two that are as dear the order by four ones decides
pub ones_decide : (ws : List ℕ) (c d : ProgramCircuit) → cost ws c ≡ cost ws d → program_cmp ones c d ≡ program_cmp ws c d
unfolding program_cmp
ones_decide ws c d e =
    by_ones c d ∙ sym (then_second (cost ws c) (cost ws d) (ordering_then (nat_cmp (length c) (length d)) (slice_cmp program_gate_cmp c d)) e)

-- a circuit costs at most 100 times its number of gates
weighs_most : (ws : List ℕ) → AreWeights ws → (i : ℕ) → slice_index_or ws i 1 ≤ 100
weighs_most ws h i = go ws i h.each
  where
    go : (vs : List ℕ) (i : ℕ) → AllByRecursion IsWeight vs → slice_index_or vs i 1 ≤ 100
    go [] i h = omega arith
    go (v ∷ vs) zero h = h.0.1
    go (v ∷ vs) (suc i) h = go vs i h.1

pub cost_most : (ws : List ℕ) → AreWeights ws → (c : ProgramCircuit) → cost ws c ≤ 100 * length c
unfolding cost
cost_most ws h [] = omega arith
cost_most ws h (H t ∷ c) = omega (arith, cost_most ws h c, weighs_most ws h 0)
cost_most ws h (X t ∷ c) = omega (arith, cost_most ws h c, weighs_most ws h 1)
cost_most ws h (Cx b t ∷ c) = omega (arith, cost_most ws h c, weighs_most ws h 2)
cost_most ws h (Rz t k ∷ c) = omega (arith, cost_most ws h c, weighs_most ws h 3)
