use Rattle.std.proofs.Common.{length, ◌-◌, ◌≤◌, drop}
use Rattle.qz_qread.proofs.StatementSteps.{Stands}
use Rattle.qz_qread.proofs.reader.add_statements.Given as goal

abbrev pub invariant-loop-count : goal.invariant-loop-count
invariant-loop-count l = (l.count ≤ length l.ts) × Stands l.bytes l.initial.p l.ts l.p (drop l.count l.ts)

abbrev pub decreases-loop-count : goal.decreases-loop-count
decreases-loop-count l = length l.ts - l.count
