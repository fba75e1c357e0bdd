use Rattle.std.proofs.Common.{◌≡◌, ◌+◌, ◌-◌, ◌*◌}
use Rattle.qz_circ.specs.Angle.{unary, chain}
use Rattle.qz_lex.specs.Values.{meaning_of}
use Rattle.qz_lex.specs.Levels.{joins_at, operand_at, joined_at}
use Rattle.qz_lex.proofs.ChainLemmas.{level_rank}
use Rattle.qz_lex.proofs.expression.+angle.Given as goal

abbrev pub decreases-unary : goal.decreases-unary
decreases-unary l = 6 * l.depth

abbrev pub decreases-operand : goal.decreases-operand
decreases-operand l = 6 * l.depth + level_rank l.level + 1

abbrev pub decreases-with_operators : goal.decreases-with_operators
decreases-with_operators l = 6 * l.depth + level_rank l.level + 2

abbrev pub decreases-nested : goal.decreases-nested
decreases-nested l = 6 * l.depth + 5

abbrev pub invariant-with_operators-loop : goal.invariant-with_operators-loop
invariant-with_operators-loop l =
    chain (joins_at l.level) (operand_at l.level (unary l.depth l.end-2)) (l.end - l.counter) (meaning_of l.meaning) l.rest ≡ joined_at l.level (unary l.depth l.end-2) l.tokens
