-- What the gates cost to which the left side of a rule binds, by its kinds of gates alone.
use Rattle.std.specs.Prelude.{ℕ, ◌+◌, List, [], ◌∷◌, slice_index_or}
use Rattle.qz_circ.specs.declared.circuit.Op.{Op}
use Rattle.qz_circ.specs.declared.circuit.Op.TheVariants.{H, X, Cx, Rz}
use Rattle.qz_circ.specs.Circuit.{Circuit}

-- what the gate weighs to which one of a rule binds
abbrev pub rule_weight : List ℕ → Op → ℕ
rule_weight ws (H t) = slice_index_or ws 0 1
rule_weight ws (X t) = slice_index_or ws 1 1
rule_weight ws (Cx c t) = slice_index_or ws 2 1
rule_weight ws (Rz t e) = slice_index_or ws 3 1

-- and all of them
unfoldable pub rule_cost : List ℕ → Circuit → ℕ
rule_cost ws [] = 0
rule_cost ws (g ∷ left) = rule_weight ws g + rule_cost ws left
