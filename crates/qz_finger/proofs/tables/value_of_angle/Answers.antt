use Rattle.std.proofs.Common.{◌*◌, ◌%◌, sym, ap, ◌∙◌}
use Rattle.std.specs.Prelude.{slice_index}
use Rattle.qz_circ.specs.declared.circuit.Expr.{Expr}
use Rattle.qz_circ.specs.Exponent.{angle_exponent}
use Rattle.qz_finger.specs.Modulo.{modulus}
use Rattle.qz_finger.specs.Fingerprint.{value}
use Rattle.qz_finger.specs.Tables.{tables_of}
use Rattle.qz_finger.specs.declared.tables.Tables.{Tables}
use Rattle.qz_finger.proofs.Worths.{worth_const, worth_plus, worth_minus, worth_sum}
use Rattle.qz_finger.proofs.tables.value_of_angle.Goals as goal

pub returns-in-Const : goal.returns-in-Const
unfolding tables_of
returns-in-Const c = λ b same.
    ap (λ (t : Tables). slice_index t.constants (c.in-Const.t % 32)) same ∙ worth_const b c.in-Const.t ∙ ap (λ (e : Expr). value b (angle_exponent e) % modulus) (sym c.in-Const.is)

pub returns-in-Plus : goal.returns-in-Plus
unfolding tables_of
returns-in-Plus c = λ b same.
    ap (λ (t : Tables). slice_index t.up c.in-Plus.i) same ∙ worth_plus b c.in-Plus.i (rw c.in-Plus.is at c.requires) ∙ ap (λ (e : Expr). value b (angle_exponent e) % modulus) (sym c.in-Plus.is)

pub returns-in-Minus : goal.returns-in-Minus
unfolding tables_of
returns-in-Minus c = λ b same.
    ap (λ (t : Tables). slice_index t.down c.in-Minus.i) same ∙ worth_minus b c.in-Minus.i (rw c.in-Minus.is at c.requires) ∙ ap (λ (e : Expr). value b (angle_exponent e) % modulus) (sym c.in-Minus.is)

pub returns-in-Sum : goal.returns-in-Sum
unfolding tables_of
returns-in-Sum c = λ b same.
    let has = rw c.in-Sum.is at c.requires in
    c.multiply.ensures ∙ ap (λ (t : Tables). slice_index t.up c.in-Sum.i * slice_index t.up c.in-Sum.j % modulus) same ∙
    worth_sum b c.in-Sum.i c.in-Sum.j has.0 has.1 has.2 ∙ ap (λ (e : Expr). value b (angle_exponent e) % modulus) (sym c.in-Sum.is)
