use Rattle.std.proofs.Common.{◌≡◌, ◌-◌, length}
use Rattle.qz_circ.specs.Lexemes.{lexemes}
use Rattle.qz_circ.specs.Forms as spec
use Rattle.qz_qread.specs.Views as views
use Rattle.qz_qread.proofs.MoreOperands.{ended}
use Rattle.qz_qread.proofs.form.operands_form.Given as goal

abbrev pub invariant-loop : goal.invariant-loop
invariant-loop l =
    ended (length l.bytes) (views.operands l.bytes l.operands.items) (spec.more_operands_form (l.more - l.counter) (length l.bytes) (lexemes l.bytes l.rest))
    ≡ spec.operands_form l.more (length l.bytes) (lexemes l.bytes l.ts)
