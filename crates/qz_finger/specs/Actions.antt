-- What a gate makes of weighed values of rows. The place of rows i and l is i·2^q + l, a state of twice as many qubits, of which
-- the lower half are those of the row whose values are weighed.
use Rattle.std.specs.Prelude.{◌≡◌, ℕ, ◌+◌, ◌*◌, ◌%◌, ◌<◌, Bool, if◌then◌else◌, List, slice_index}
use Rattle.qz_circ.specs.declared.circuit.Expr.{Expr}
use Rattle.qz_circ.specs.declared.circuit.Op.{Op}
use Rattle.qz_circ.specs.declared.circuit.Op.TheVariants.{H, X, Cx, Rz}
use Rattle.qz_circ.specs.Paths.{has_bit, flipped_state}
use Rattle.qz_finger.specs.declared.actions.Action.{Action}
use Rattle.qz_finger.specs.declared.actions.Action.TheVariants.{Mix, Flip, FlipWhere, Turn}
use Rattle.qz_finger.specs.declared.actions.Step.{Step}
use Rattle.qz_finger.specs.Modulo.{modulus, minus_one}

-- what is made of the value x of a place whose control and target are b and c, and of the value y where the target is flipped
abbrev pub acted : Action → Bool → Bool → ℕ → ℕ → ℕ
acted Mix b c x y = (if c then minus_one * x else x) + y
acted Flip b c x y = y
acted FlipWhere b c x y = if b then y else x
acted (Turn u) b c x y = if c then u * x else x

-- each number is below p
abbrev pub AreBelow : List ℕ → Type 0
AreBelow xs = (k : ℕ) → slice_index xs k < modulus

-- what a step makes of place k, where f says the value of each place
abbrev pub value_after : Step → (ℕ → ℕ) → ℕ → ℕ
value_after s f k = acted s.action (has_bit s.control k) (has_bit s.target k) (f k) (f (flipped_state s.target k)) % modulus

-- new are the values after the step, at the places below size
abbrev pub IsAfter : Step → ℕ → List ℕ → List ℕ → Type 0
IsAfter s size old new = (k : ℕ) → k < size → slice_index new k ≡ value_after s (slice_index old) k

-- the step of a gate of a rule, where u says what angles are worth
abbrev pub step_for : (Expr → ℕ) → Op → Step
step_for u (H t) = record { action = Mix; control = t; target = t }
step_for u (X t) = record { action = Flip; control = t; target = t }
step_for u (Cx c t) = record { action = FlipWhere; control = c; target = t }
step_for u (Rz t e) = record { action = Turn (u e); control = t; target = t }
