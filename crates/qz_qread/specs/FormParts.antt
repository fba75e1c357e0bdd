-- Parts of forms that are read by functions of their own.
use Rattle.std.specs.Prelude.{ℕ, if◌then◌else◌, List}
use Rattle.qz_circ.specs.declared.gate_name.GateName.{GateName}
use Rattle.qz_circ.specs.FirstFault.{◌>>=◌}
use Rattle.qz_circ.specs.GateNames.{takes_angle}
use Rattle.qz_circ.specs.Lexemes.{Lexeme}
use Rattle.qz_circ.specs.Forms.{Read, Operand, token, is_comma, operand_form, angle_form, no_angle_form}

-- an operand after a comma
abbrev pub next_operand : ℕ → List Lexeme → Read Operand
next_operand len ls = do
  comma ← token is_comma len ls
  operand_form len comma.1

-- the angle of a gate, where it takes one
abbrev pub gate_angle : GateName → ℕ → List Lexeme → Read (List Lexeme)
gate_angle gate len ls = if takes_angle gate then angle_form len ls else no_angle_form len ls
