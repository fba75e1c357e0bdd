use Rattle.std.proofs.Common.{◌≡◌, ◌≤◌, length, take, drop}
use Rattle.qz_circ.specs.Lexemes.{lexemes}
use Rattle.qz_circ.specs.Forms as spec
use Rattle.qz_qread.proofs.EnclosedTokens.{with_tokens}
use Rattle.qz_qread.proofs.form.enclosed.Given as goal

abbrev pub invariant-loop-n : goal.invariant-loop-n
invariant-loop-n l = record {
  read : with_tokens (lexemes l.bytes (take l.n l.ts)) (spec.enclosed l.more_open (length l.bytes) (lexemes l.bytes (drop l.n l.ts))) ≡ spec.enclosed 0 (length l.bytes) (lexemes l.bytes l.ts);
  few : l.more_open ≤ l.n;
}
