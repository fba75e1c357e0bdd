-- The command that writes the canonical text of a program.
use Rattle.std.specs.Prelude.{◌≡◌}
use Rattle.qz_circ.specs.ProgramText.{program_text}
use Rattle.qz_top.specs.Answer.{Answer, Given}
use Rattle.qz_top.specs.Inputs.{input_answer}

-- the answer is that to the input, with the canonical text of the program that it is
abbrev pub Tidies : Given → Answer → Type 0
Tidies given answer = answer ≡ input_answer program_text given.input
