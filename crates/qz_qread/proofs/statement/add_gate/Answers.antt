use Rattle.std.proofs.Common.{length}
use Rattle.std.proofs.lemmas.List.{length-map}
use Rattle.qz_circ.specs.Lexemes.{lexeme, lexemes}
use Rattle.qz_qread.specs.Views as views
use Rattle.qz_qread.proofs.ReadForms.{angle_given}
use Rattle.qz_qread.proofs.statement.add_gate.Goals as goal

pub angle_number-requires : goal.angle_number-requires
angle_number-requires c = λ takes.
    let some = angle_given c.args.p.now c.in_ok-name.name (length c.args.bytes.now) (lexeme c.args.bytes.now c.args.word) (lexemes c.args.bytes.now c.args.ts.now) (views.gate_form c.args.bytes.now c.in_ok-form.form) c.in_ok-form.ensures takes in
    rw length-map at some
