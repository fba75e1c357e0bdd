-- Parts of statements that are read by functions of their own.
use Rattle.std.specs.Prelude.{ℕ, if◌then◌else◌, List, Result, Ok, Err, codes}
use Rattle.std.specs.Str.{bytes_eq}
use Rattle.qz_circ.specs.declared.fault.QasmFault.{QasmFault}
use Rattle.qz_circ.specs.declared.fault.QasmFault.TheVariants as fault
use Rattle.qz_circ.specs.FirstFault.{◌>>=◌}
use Rattle.qz_circ.specs.Forms.{declaration_form, header_form}
use Rattle.qz_circ.specs.Grammar.{with_qreg, with_creg}
use Rattle.qz_circ.specs.Lexemes.{Lexeme, place_of}
use Rattle.qz_circ.specs.Programs.{ProgramParts}

-- the declaration of a register of qubits
abbrev pub with_qubits : ℕ → ProgramParts → List Lexeme → Result ProgramParts QasmFault
with_qubits len p ls = declaration_form len ls >>= with_qreg p

-- the declaration of a register of classical bits
abbrev pub with_bits : ℕ → ProgramParts → List Lexeme → Result ProgramParts QasmFault
with_bits len p ls = declaration_form len ls >>= with_creg p

-- a header, of version 2.0
abbrev pub header_of : ℕ → List Lexeme → Result Lexeme QasmFault
header_of len ls = do
  version ← header_form len ls
  if bytes_eq version.text (codes "2.0") then Ok version else Err (fault.Unsupported (place_of version))
