-- Circuits with the same gates at their front: how they compare, and that those between two of them have them too.
use Rattle.std.proofs.Common.{◌≡◌, ◌<◌, ◌≤◌, ◌+◌, ◌-◌, ℕ, zero, suc, ◌⊎◌, inl, inr, true, List, [], ◌∷◌, length, take, drop, get_or, refl, sym, ap, subst, ◌∙◌, Less, Equal, Greater, arith}
use Rattle.std.specs.declared.cmp.Ordering.{Ordering}
use Rattle.std.specs.Ordering.{nat_cmp, ordering_then, ordering_reverse, is_gt, is_ne, ord_min}
use Rattle.std.specs.Cmp.{IsTotalOrder}
use Rattle.std.specs.Cmp.Lexicographic.{slice_cmp}
use Rattle.std.proofs.lemmas.Bool.Decides.{nat_tests}
use Rattle.std.proofs.lemmas.Cmp.{on_total, nat_cmp_total, nat_list_cmp_total, tied_itself}
use Rattle.std.proofs.lemmas.List.{take_all, take-take}
use Rattle.qz_circ.specs.declared.circuit.Inst.{Inst}
use Rattle.qz_circ.specs.ProgramCircuits.{ProgramCircuit, ones, cost, program_gate_key, program_gate_cmp, program_cmp}
use Rattle.qz_circ.proofs.ProgramOrder.{program_cmp_total, program_cmp_exact, not_dearer, not_longer, gates_decide, cost_ones}
use Rattle.qz_queue.specs.Circuits.{AreOrdered, IsFront}
use Rattle.qz_queue.proofs.DifferentOnes.{Has, Strict}
use Rattle.qz_queue.proofs.QueueLists.{strict_circuits}

gate_total : IsTotalOrder program_gate_cmp
unfolding program_gate_cmp
gate_total = on_total program_gate_key nat_list_cmp_total

by_gates : (a c : ProgramCircuit) → length a ≡ length c → program_cmp ones a c ≡ slice_cmp program_gate_cmp a c
by_gates a c long = gates_decide ones a c (cost_ones a ∙ long ∙ sym (cost_ones c)) long

pub gate_exact : (f g : Inst) → program_gate_cmp f g ≡ Equal → f ≡ g
gate_exact f g h =
    let whole = program_cmp_exact ones (f ∷ []) (g ∷ []) (by_gates (f ∷ []) (g ∷ []) refl ∙ (λ i. ordering_then (h i) Equal)) in cc

-- the first different gate decides
pub slice_at : (a c : ProgramCircuit) (k : ℕ) (d : Inst) → take k a ≡ take k c → k < length a → k < length c → slice_cmp program_gate_cmp a c ≡ ordering_then (program_gate_cmp (get_or a k d) (get_or c k d)) (slice_cmp program_gate_cmp (drop (suc k) a) (drop (suc k) c))
slice_at [] c k d h l m = absurd (omega arith)
slice_at (x ∷ xs) [] k d h l m = absurd (omega arith)
slice_at (x ∷ xs) (y ∷ ys) zero d h l m = refl
slice_at (x ∷ xs) (y ∷ ys) (suc k) d h l m =
    let first : x ≡ y = cc in
    let rest : take k xs ≡ take k ys = cc in
    let tie : program_gate_cmp x y ≡ Equal = (λ i. program_gate_cmp (first i) y) ∙ tied_itself gate_total y in
    (λ i. ordering_then (tie i) (slice_cmp program_gate_cmp xs ys)) ∙ slice_at xs ys k d rest (omega arith) (omega arith)

then_first : (r s : Ordering) → is_ne r ≡ true → ordering_then r s ≡ r
then_first Less s h = refl
then_first Equal s h = cc
then_first Greater s h = refl

pub decided_at : (ws : List ℕ) (a c : ProgramCircuit) (k : ℕ) (d : Inst) (r : Ordering) → cost ws a ≡ cost ws c → length a ≡ length c → take k a ≡ take k c → k < length a → r ≡ program_gate_cmp (get_or a k d) (get_or c k d) → is_ne r ≡ true → r ≡ program_cmp ws a c
decided_at ws a c k d r dear long h l e other =
    sym (gates_decide ws a c dear long ∙ slice_at a c k d h l (omega arith) ∙ (λ i. ordering_then (sym e i) (slice_cmp program_gate_cmp (drop (suc k) a) (drop (suc k) c))) ∙ then_first r _ other)

pub alike_throughout : (ws : List ℕ) (a c : ProgramCircuit) (k : ℕ) → length a ≡ length c → take k a ≡ take k c → length a ≤ k → Equal ≡ program_cmp ws a c
alike_throughout ws a c k long h past =
    let same : a ≡ c = sym (take_all k a past) ∙ h ∙ take_all k c (omega arith) in
    sym ((λ i. program_cmp ws (same i) c) ∙ tied_itself (program_cmp_total ws) c)

-- the gates at the front of two circuits are those of any between
between_gates : (n : ℕ) (x y z : ProgramCircuit) → slice_cmp program_gate_cmp x y ≡ Less → slice_cmp program_gate_cmp y z ≡ Less → length x ≡ length y → length y ≡ length z → take n x ≡ take n z → take n y ≡ take n z
between_gates zero x y z h g l m e = refl
between_gates (suc n) [] [] [] h g l m e = refl
between_gates (suc n) [] (b ∷ bs) z h g l m e = absurd (omega arith)
between_gates (suc n) [] [] (d ∷ ds) h g l m e = absurd (omega arith)
between_gates (suc n) (a ∷ es) [] z h g l m e = absurd (omega arith)
between_gates (suc n) (a ∷ es) (b ∷ bs) [] h g l m e = absurd (omega arith)
between_gates (suc n) (a ∷ es) (b ∷ bs) (d ∷ ds) h g l m e =
    by (program_gate_cmp a b) refl h (λ f k. between_gates n es bs ds f k (omega arith) (omega arith) rest)
  where
    first : a ≡ d
    first = cc

    rest : take n es ≡ take n ds
    rest = cc

    by : (r : Ordering) → program_gate_cmp a b ≡ r → ordering_then r (slice_cmp program_gate_cmp es bs) ≡ Less → (slice_cmp program_gate_cmp es bs ≡ Less → slice_cmp program_gate_cmp bs ds ≡ Less → take n bs ≡ take n ds) → b ∷ take n bs ≡ d ∷ take n ds
    by Less f k ih =
        let after : program_gate_cmp b d ≡ Greater = (λ i. program_gate_cmp b (sym first i)) ∙ gate_total.antisymm b a ∙ ap ordering_reverse f in
        let wrong : Greater ≡ Less = (λ i. ordering_then (sym after i) (slice_cmp program_gate_cmp bs ds)) ∙ g in
        cc
    by Equal f k ih =
        let same : b ≡ d = sym (gate_exact a b f) ∙ first in
        let tie : program_gate_cmp b d ≡ Equal = (λ i. program_gate_cmp (same i) d) ∙ tied_itself gate_total d in
        let more : take n bs ≡ take n ds = ih k ((λ i. ordering_then (sym tie i) (slice_cmp program_gate_cmp bs ds)) ∙ g) in
        cc
    by Greater f k ih = let wrong : Greater ≡ Less = k in cc

between : (ws : List ℕ) (n : ℕ) (x y z : ProgramCircuit) → program_cmp ws x y ≡ Less → program_cmp ws y z ≡ Less → cost ws x ≡ cost ws z → length x ≡ length z → take n x ≡ take n z → take n y ≡ take n z
between ws n x y z h g dear long e =
    let rise : cost ws x ≤ cost ws y = not_dearer ws x y (ap is_gt h) in
    let more : cost ws y ≤ cost ws z = not_dearer ws y z (ap is_gt g) in
    let first_dear : cost ws x ≡ cost ws y = omega arith in
    let second_dear : cost ws y ≡ cost ws z = omega arith in
    let up : length x ≤ length y = not_longer ws x y first_dear (ap is_gt h) in
    let on : length y ≤ length z = not_longer ws y z second_dear (ap is_gt g) in
    let first : length x ≡ length y = omega arith in
    let second : length y ≡ length z = omega arith in
    between_gates n x y z (sym (gates_decide ws x y first_dear first) ∙ h) (sym (gates_decide ws y z second_dear second) ∙ g) first second e

pub has_at : (cs : List ProgramCircuit) (n : ℕ) → n < length cs → Has cs (get_or cs n [])
has_at [] n l = absurd (omega arith)
has_at (c ∷ cs) zero l = inl refl
has_at (c ∷ cs) (suc n) l = inr (has_at cs n (omega arith))

pub strict_at : (ws : List ℕ) (cs : List ProgramCircuit) (i j : ℕ) → Strict (program_cmp ws) cs → i < j → j < length cs → program_cmp ws (get_or cs i []) (get_or cs j []) ≡ Less
strict_at ws [] i j s h l = absurd (omega arith)
strict_at ws (c ∷ cs) i zero s h l = absurd (omega arith)
strict_at ws (c ∷ cs) zero (suc j) s h l = s.0 (get_or cs j []) (has_at cs j (omega arith))
strict_at ws (c ∷ cs) (suc i) (suc j) s h l = strict_at ws cs i j s.1 (omega arith) (omega arith)

-- what is known of the nearest ones on both sides of a place: how many gates each has alike with a circuit at their front
pub record Sides (ws : List ℕ) (cs : List ProgramCircuit) (c : ProgramCircuit) (low high p q : ℕ) : Type 0 where
  pub left : (p ≡ 0) ⊎ (0 < low)
  pub left_front : IsFront ws p (get_or cs (low - 1) []) c
  pub right : (q ≡ 0) ⊎ (high < length cs)
  pub right_front : IsFront ws q (get_or cs high []) c

-- those between have as many gates alike
pub known_front : (ws : List ℕ) (cs : List ProgramCircuit) (c : ProgramCircuit) (low m high p q n : ℕ) → AreOrdered ws cs → low ≤ m → m < high → Sides ws cs c low high p q → n ≡ ord_min nat_cmp p q → take n (get_or cs m []) ≡ take n c
known_front ws cs c low m high p q n ordered from below sides least = by sides.left sides.left_front sides.right sides.right_front
  where
    less_p : n ≤ p
    less_p = grind (arith, nat_tests)

    less_q : n ≤ q
    less_q = grind (arith, nat_tests)

    none : n ≡ 0 → take n (get_or cs m []) ≡ take n c
    none z = (λ i. take (z i) (get_or cs m [])) ∙ (λ i. take (sym z i) c)

    both : 0 < low → high < length cs → (cost ws (get_or cs (low - 1) []) ≡ cost ws c) × (length (get_or cs (low - 1) []) ≡ length c) × (take p (get_or cs (low - 1) []) ≡ take p c) → (cost ws (get_or cs high []) ≡ cost ws c) × (length (get_or cs high []) ≡ length c) × (take q (get_or cs high []) ≡ take q c) → take n (get_or cs m []) ≡ take n c
    both some few f g =
        let x = get_or cs (low - 1) [] in
        let y = get_or cs m [] in
        let z = get_or cs high [] in
        let at_x : take n x ≡ take n c = sym (take-take n p x less_p) ∙ ap (take n) f.2 ∙ take-take n p c less_p in
        let at_z : take n z ≡ take n c = sym (take-take n q z less_q) ∙ ap (take n) g.2 ∙ take-take n q c less_q in
        let strict = strict_circuits ws cs ordered in
        between ws n x y z (strict_at ws cs (low - 1) m strict (omega arith) (omega arith)) (strict_at ws cs m high strict below few) (f.0 ∙ sym g.0) (f.1 ∙ sym g.1) (at_x ∙ sym at_z) ∙ at_z

    by : (p ≡ 0) ⊎ (0 < low) → IsFront ws p (get_or cs (low - 1) []) c → (q ≡ 0) ⊎ (high < length cs) → IsFront ws q (get_or cs high []) c → take n (get_or cs m []) ≡ take n c
    by (inl e) f r g = none (omega (arith, less_p))
    by (inr some) (inl e) r g = none (omega (arith, less_p))
    by (inr some) (inr f) (inl e) g = none (omega (arith, less_q))
    by (inr some) (inr f) (inr few) (inl e) = none (omega (arith, less_q))
    by (inr some) (inr f) (inr few) (inr g) = both some few f g

pub no_sides : (ws : List ℕ) (cs : List ProgramCircuit) (c : ProgramCircuit) (high : ℕ) → Sides ws cs c 0 high 0 0
no_sides ws cs c high = record { left = inl refl; left_front = inl refl; right = inl refl; right_front = inl refl }

pub new_left : (ws : List ℕ) (cs : List ProgramCircuit) (c : ProgramCircuit) (low m high p q n : ℕ) → Sides ws cs c low high p q → IsFront ws n (get_or cs m []) c → Sides ws cs c (m + 1) high n q
new_left ws cs c low m high p q n h front =
    let less : m ≡ m + 1 - 1 = omega arith in
    record { left = inr (omega arith); left_front = subst (λ i. IsFront ws n (get_or cs i []) c) less front; right = h.right; right_front = h.right_front }

pub new_right : (ws : List ℕ) (cs : List ProgramCircuit) (c : ProgramCircuit) (low m high p q n : ℕ) → Sides ws cs c low high p q → m < length cs → IsFront ws n (get_or cs m []) c → Sides ws cs c low m p n
new_right ws cs c low m high p q n h few front =
    record { left = h.left; left_front = h.left_front; right = inr few; right_front = front }
