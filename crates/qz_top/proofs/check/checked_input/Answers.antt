use Rattle.std.proofs.Common.{inl}
use Rattle.qz_top.proofs.CheckLemmas.{checked_of_program}
use Rattle.qz_top.proofs.check.checked_input.Goals as goal

pub returns-in-Ok-clause-made : goal.returns-in-Ok-clause-made
returns-in-Ok-clause-made g c = checked_of_program (λ text. text.now) c.args.file.now c.in-Ok.program c.checked.result _ c.in-Ok.ensures.read c.checked.ensures

pub returns-in-Err-clause-made : goal.returns-in-Err-clause-made
returns-in-Err-clause-made g c = inl c.in-Err.ensures.read
