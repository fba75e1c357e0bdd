use Rattle.qz_circ.specs.ProgramText.{program_text}
use Rattle.std.proofs.Common.{◌≡◌}
use Rattle.qz_top.proofs.InputLemmas.{made_of_program}
use Rattle.qz_top.proofs.tidy.tidied_input.Goals as goal

pub returns-in-Ok-clause-made : goal.returns-in-Ok-clause-made
returns-in-Ok-clause-made g c = made_of_program (λ text p. text.items ≡ program_text p) c.in-Ok.program c.text_of.result _ c.in-Ok.ensures.read c.text_of.ensures
