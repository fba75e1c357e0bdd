-- The input of a command that needs a program: the answers to it, by the text that becomes of a program.
use Rattle.std.specs.Prelude.{ℕ, nat_lt, if◌then◌else◌, List, length, Result, Ok, Err}
use Rattle.qz_circ.specs.declared.fault.Which.TheVariants.{InputBytes}
use Rattle.qz_circ.specs.declared.fault.LexFault.TheVariants as lexical
use Rattle.qz_circ.specs.declared.fault.QasmFault.{QasmFault}
use Rattle.qz_circ.specs.declared.fault.QasmFault.TheVariants as fault
use Rattle.qz_circ.specs.Grammar.{program_of}
use Rattle.qz_circ.specs.Programs.{ProgramParts}
use Rattle.qz_io.specs.declared.transfers.Unread.{Unread}
use Rattle.qz_io.specs.declared.transfers.Unread.TheVariants as unread
use Rattle.qz_top.specs.declared.status.Status.{Status}
use Rattle.qz_top.specs.declared.status.Status.TheVariants as status
use Rattle.qz_top.specs.Answer.{Answer, refused_with, done}

-- how many bytes the text of a program has at most where it is an input
abbrev pub most_input_bytes : ℕ
most_input_bytes = 4194304

-- the status of a fault of a program; a limit and want of memory have their own
abbrev pub status_of_fault : QasmFault → Status
status_of_fault (fault.Limit which place) = status.Limit which
status_of_fault fault.Memory = status.Memory
status_of_fault (fault.Lex lexical.Memory) = status.Memory
status_of_fault e = status.Qasm e

-- the status where an input isn't read whole
abbrev pub status_of_unread : Unread → Status
status_of_unread unread.TooLong = status.Limit InputBytes
status_of_unread unread.Failed = status.ReadFault
status_of_unread unread.Memory = status.Memory

-- the answer to a program: the text that becomes of it; or that to the first fault of a text
abbrev pub program_answer : (ProgramParts → List ℕ) → Result ProgramParts QasmFault → Answer
program_answer text (Ok p) = done (text p)
program_answer text (Err e) = refused_with (status_of_fault e)

-- the answer to an input: the text that becomes of the program that it is; or its first fault, or that it is too long
unfoldable pub input_answer : (ProgramParts → List ℕ) → List ℕ → Answer
input_answer text input = if nat_lt most_input_bytes (length input) then refused_with (status.Limit InputBytes) else program_answer text (program_of input)
