-- Values of the code as those of the definitions, with the bytes of the text.
use Rattle.std.specs.Prelude.{ℕ, List, map, Option, Some, None}
use Rattle.qz_circ.specs.declared.token.Token.{Token}
use Rattle.qz_circ.specs.Lexemes.{Lexeme, lexeme, lexemes}
use Rattle.qz_circ.specs.Forms as forms
use Rattle.qz_qread.specs.declared.form.Operand.{Operand}
use Rattle.qz_qread.specs.declared.form.Declaration.{Declaration}
use Rattle.qz_qread.specs.declared.form.Measurement.{Measurement}
use Rattle.qz_qread.specs.declared.form.GateForm.{GateForm}

-- the number in brackets, where there is one
abbrev pub index : List ℕ → Option Token → Option Lexeme
index bytes None = None
index bytes (Some t) = Some (lexeme bytes t)

-- an operand
abbrev pub operand : List ℕ → Operand → forms.Operand
operand bytes o = record { name = lexeme bytes o.name; index = index bytes o.index }

-- operands in order
abbrev pub operands : List ℕ → List Operand → List forms.Operand
operands bytes os = map (operand bytes) os

-- a declaration
abbrev pub declaration : List ℕ → Declaration → forms.Declaration
declaration bytes d = record { name = lexeme bytes d.name; size = lexeme bytes d.size }

-- a measurement
abbrev pub measurement : List ℕ → Measurement → forms.Measurement
measurement bytes m = record { from = operand bytes m.from; to = operand bytes m.to }

-- the form of a gate
abbrev pub gate_form : List ℕ → GateForm → forms.GateForm
gate_form bytes f = record { angle = lexemes bytes f.angle.now; operands = operands bytes f.operands.items }
