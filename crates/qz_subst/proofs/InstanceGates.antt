-- The gates of an instance: they are gates of a program, as many of them are H as in the rule, and they make of amounts what the
-- rule's gates make of them, with values for the parameters and on the qubits that stand for the rule's.
use Rattle.std.proofs.Common.{◌≡◌, ℕ, ◌+◌, ◌<◌, ◌==◌, Bool, true, false, List, [], ◌∷◌, ◌++◌, map, cond, refl, sym, ap, subst, ◌∙◌, arith}
use Rattle.std.specs.Prelude.{if◌then◌else◌}
use Rattle.std.specs.List.{AllByRecursion}
use Rattle.std.proofs.lemmas.Bool.{eqb-true, eqb-false}
use Rattle.std.proofs.lemmas.List.Sums.{sum_by-append, sum_by-cons}
use Rattle.qz_circ.specs.declared.circuit.Expr.{Expr}
use Rattle.qz_circ.specs.declared.circuit.Expr.TheVariants.{Const, Plus, Minus, Sum}
use Rattle.qz_circ.specs.declared.circuit.Op.{Op}
use Rattle.qz_circ.specs.declared.circuit.Op.TheVariants.{H, X, Cx, Rz}
use Rattle.qz_circ.specs.declared.circuit.Inst.{Inst}
use Rattle.qz_circ.specs.declared.circuit.Inst.TheVariants.{Rz as ProgramRz}
use Rattle.qz_circ.specs.Circuit.{Circuit, ActsBelow, IsOn}
use Rattle.qz_circ.specs.Exponent.{Exponent, zero_exponent, minus, turn_of, angle_exponent, angle_value}
use Rattle.qz_circ.specs.Instances.{instance_gate, instance_of}
use Rattle.qz_circ.specs.Paths.{has_bit, is_h, halves}
use Rattle.qz_circ.specs.ProgramCircuits.{IsProgramGate, is_program_h, program_halves}
use Rattle.qz_circ.proofs.Exponents.{minus-zero}
use Rattle.qz_circ.proofs.GateSteps.{Amounts, Gate, turn, step}
use Rattle.qz_circ.proofs.RisingLists.{each-append}
use Rattle.qz_circ.proofs.RuleGates.{as_gate, as_program_gate}
use Rattle.qz_circ.proofs.Through.{IsGate}
use Rattle.qz_paths.proofs.Runs.{run, AreGates, AlongBelow, same_goes_over, step_along}
use Rattle.qz_subst.proofs.Split.{AreDifferent}
use Rattle.qz_subst.proofs.Placed.{placed, IsWithin}
use Rattle.qz_subst.proofs.Turns.{bind, bind_proper, bind_angle}
use Rattle.qz_subst.proofs.MovedWays.{moved_gate}

-- the gate of a rule with values for its parameters
abbrev pub as_bound : (ℕ → ℕ) → Op → Gate
as_bound p g = moved_gate (bind p) (as_gate g)

-- its qubits go below q
abbrev pub GoesBelow : ℕ → (ℕ → ℕ) → Op → Type 0
GoesBelow q f (H t) = f t < q
GoesBelow q f (X t) = f t < q
GoesBelow q f (Cx c t) = (f c < q) × (f t < q)
GoesBelow q f (Rz t e) = f t < q

-- ---- the rule's gates

-- they are gates on the rule's qubits
bound_is : (n : ℕ) (p : ℕ → ℕ) (g : Op) → ActsBelow n g → IsGate n (as_bound p g)
bound_is n p (H t) acts = record { within = acts; right = tt }
bound_is n p (X t) acts = record { within = acts; right = tt }
bound_is n p (Cx c t) acts = record { within = acts.1; right = acts.2 }
bound_is n p (Rz t e) acts = record { within = acts; right = bind_proper p (angle_exponent e) }

pub bound_gates : (n k : ℕ) (p : ℕ → ℕ) (c : Circuit) → IsOn n k c → AreGates n (map (as_bound p) c)
bound_gates n k p [] on = tt
bound_gates n k p (g ∷ c) on = (bound_is n p g on.0.0, bound_gates n k p c on.1)

-- both qubits of each are among them
within : (n : ℕ) (p : ℕ → ℕ) (g : Op) → ActsBelow n g → IsWithin n (as_bound p g)
within n p (H t) acts = record { control = acts; target = acts }
within n p (X t) acts = record { control = acts; target = acts }
within n p (Cx c t) acts = record { control = acts.0; target = acts.1 }
within n p (Rz t e) acts = record { control = acts; target = acts }

pub bound_within : (n k : ℕ) (p : ℕ → ℕ) (c : Circuit) → IsOn n k c → AllByRecursion (IsWithin n) (map (as_bound p) c)
bound_within n k p [] on = tt
bound_within n k p (g ∷ c) on = (within n p g on.0.0, bound_within n k p c on.1)

-- ---- the instance's gates

module _ (n q k : ℕ) (f p : ℕ → ℕ) (different : AreDifferent f n) where
  -- the value of an angle is below a circle
  value_below : (e : Expr) → angle_value p e < 512
  value_below (Const t) = omega arith
  value_below (Plus i) = omega arith
  value_below (Minus i) = omega arith
  value_below (Sum i j) = omega arith

  -- a rotation, if it is one
  rotation_is : (t v : ℕ) → f t < q → v < 512 → AllByRecursion (IsProgramGate q) (if v == 0 then [] else ProgramRz (f t) v ∷ [])
  rotation_is t v goes less = by (v == 0) (eqb-false v 0)
    where
      by : (b : Bool) → (b ≡ false → v ≡ 0 → ⊥) → AllByRecursion (IsProgramGate q) (if b then [] else ProgramRz (f t) v ∷ [])
      by true apart = tt
      by false apart = let not_zero = apart refl in ((goes, omega arith, less), tt)

  -- what a gate becomes is of program gates
  instance_gate_is : (g : Op) → ActsBelow n g → GoesBelow q f g → AllByRecursion (IsProgramGate q) (instance_gate f p g)
  instance_gate_is (H t) acts goes = (goes, tt)
  instance_gate_is (X t) acts goes = (goes, tt)
  instance_gate_is (Cx c t) acts goes = ((goes.0, goes.1, λ h. acts.2 (different c t acts.0 acts.1 h)), tt)
  instance_gate_is (Rz t e) acts goes = rotation_is t (angle_value p e) goes (value_below e)

  -- and so is the instance
  pub instance_gates : (c : Circuit) → IsOn n k c → AllByRecursion (GoesBelow q f) c → AllByRecursion (IsProgramGate q) (instance_of f p c)
  unfolding instance_of
  instance_gates [] on goes = tt
  instance_gates (g ∷ c) on goes = each-append (IsProgramGate q) (instance_gate f p g) (instance_of f p c) (instance_gate_is g on.0.0 goes.0) (instance_gates c on.1 goes.1)

-- ---- how many are H

-- what a gate becomes has as many as it
one_half : (f p : ℕ → ℕ) (g : Op) → program_halves (instance_gate f p g) ≡ cond (is_h g) 1 0
one_half f p (H t) = refl
one_half f p (X t) = refl
one_half f p (Cx c t) = refl
one_half f p (Rz t e) = by (angle_value p e == 0)
  where
    by : (b : Bool) → program_halves (if b then [] else ProgramRz (f t) (angle_value p e) ∷ []) ≡ 0
    by true = refl
    by false = refl

-- and so has the instance
pub instance_halves : (f p : ℕ → ℕ) (c : Circuit) → program_halves (instance_of f p c) ≡ halves c
unfolding instance_of
instance_halves f p [] = refl
instance_halves f p (g ∷ c) =
    sum_by-append (λ h. cond (is_program_h h) 1 0) (instance_gate f p g) (instance_of f p c) ∙ (λ d. one_half f p g d + instance_halves f p c d) ∙ sym (sum_by-cons (λ h. cond (is_h h) 1 0) g c)

-- ---- what the instance's gates make of amounts

-- a rotation by 0 makes nothing else of them
rotation_by_zero : (q c t : ℕ) (u : Exponent) (v w : Amounts) → u ≡ zero_exponent → AlongBelow q (λ e. e) v w → AlongBelow q (λ e. e) v (step (record { kind = turn u; control = c; target = t }) w)
rotation_by_zero q c t u v w same along i less e he = along i less e he ∙ ap (w i) (by (has_bit t i))
  where
    by : (b : Bool) → e ≡ (if b then minus e u else e)
    by true = sym (ap (minus e) same ∙ minus-zero e he)
    by false = refl

-- a rotation, if it is one
rotation_run : (q t k : ℕ) (u : Exponent) (c : List Inst) (gates : List Gate) (v w : Amounts) → t < q → u ≡ turn_of k →
    ((x y : Amounts) → AlongBelow q (λ e. e) x y → AlongBelow q (λ e. e) (run (map as_program_gate c) x) (run gates y)) → AlongBelow q (λ e. e) v w →
    AlongBelow q (λ e. e) (run (map as_program_gate ((if k == 0 then [] else ProgramRz t k ∷ []) ++ c)) v) (run gates (step (record { kind = turn u; control = t; target = t }) w))
rotation_run q t k u c gates v w less same next along = by (k == 0) (eqb-true k 0)
  where
    by : (b : Bool) → (b ≡ true → k ≡ 0) → AlongBelow q (λ e. e) (run (map as_program_gate ((if b then [] else ProgramRz t k ∷ []) ++ c)) v) (run gates (step (record { kind = turn u; control = t; target = t }) w))
    by true none = next v (step (record { kind = turn u; control = t; target = t }) w) (rotation_by_zero q t t u v w (same ∙ ap turn_of (none refl)) along)
    by false none = next (step (record { kind = turn (turn_of k); control = t; target = t }) v) (step (record { kind = turn u; control = t; target = t }) w)
        (subst (λ x. AlongBelow q (λ e. e) (step (record { kind = turn (turn_of k); control = t; target = t }) v) (step (record { kind = turn x; control = t; target = t }) w)) (sym same)
        (step_along (λ e. e) same_goes_over q (record { kind = turn (turn_of k); control = t; target = t }) v w less along))

-- the instance and the rule's gates
pub instance_run : (q n : ℕ) (f p : ℕ → ℕ) (c : Circuit) (v w : Amounts) → IsOn n 3 c → AllByRecursion (GoesBelow q f) c → AlongBelow q (λ e. e) v w →
    AlongBelow q (λ e. e) (run (map as_program_gate (instance_of f p c)) v) (run (map (placed f) (map (as_bound p) c)) w)
unfolding instance_of
instance_run q n f p [] v w on goes along = along
instance_run q n f p (H t ∷ c) v w on goes along =
    let g = placed f (as_bound p (H t)) in
    instance_run q n f p c (step g v) (step g w) on.1 goes.1 (step_along (λ e. e) same_goes_over q g v w goes.0 along)
instance_run q n f p (X t ∷ c) v w on goes along =
    let g = placed f (as_bound p (X t)) in
    instance_run q n f p c (step g v) (step g w) on.1 goes.1 (step_along (λ e. e) same_goes_over q g v w goes.0 along)
instance_run q n f p (Cx s t ∷ c) v w on goes along =
    let g = placed f (as_bound p (Cx s t)) in
    instance_run q n f p c (step g v) (step g w) on.1 goes.1 (step_along (λ e. e) same_goes_over q g v w goes.0.1 along)
instance_run q n f p (Rz t e ∷ c) v w on goes along =
    rotation_run q (f t) (angle_value p e) (bind p (angle_exponent e)) (instance_of f p c) (map (placed f) (map (as_bound p) c)) v w goes.0 (bind_angle p e on.0.1)
    (λ x y h. instance_run q n f p c x y on.1 goes.1 h) along
