use Rattle.std.proofs.Common.{◌≡◌, ◌++◌, ◌∷◌, take}
use Rattle.std.specs.List.{flat_map}
use Rattle.qz_circ.specs.ProgramText.{operand_text}
use Rattle.qz_qwrite.proofs.operand.push_operands.Given as goal

abbrev pub invariant-loop-a : goal.invariant-loop-a
invariant-loop-a l = l.out.items ≡ l.initial.out.items ++ flat_map (λ a. 44 ∷ operand_text l.registers a) (take l.a-index l.rest)
