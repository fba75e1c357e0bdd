use Rattle.std.proofs.Common.{◌≡◌, ◌+◌, drop}
use Rattle.qz_qread.proofs.Statements.{first_len}
use Rattle.qz_qread.proofs.lexeme.statement_len.Given as goal

abbrev pub invariant-loop-n : goal.invariant-loop-n
invariant-loop-n l = l.n + first_len (drop l.n l.ts) ≡ first_len l.ts
