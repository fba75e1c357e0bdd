use Rattle.std.proofs.Common.{refl, inr}
use Rattle.qz_top.specs.Check.{program_file}
use Rattle.qz_top.proofs.AnswerLemmas.{no_read_fault}
use Rattle.qz_top.proofs.CheckLemmas.{checked_by_file, late_by_programs}
use Rattle.qz_top.proofs.FileLemmas.{taken_for}
use Rattle.qz_top.proofs.check.checked_by.Goals as goal

pub returns-in-Ok-clause-made : goal.returns-in-Ok-clause-made
returns-in-Ok-clause-made g c = checked_by_file c.args.name.now c.in-Ok.file _ c.in-Ok.ensures.made (λ text. text.now) c.checked_input.result _ c.checked_input.ensures.made

pub returns-in-Ok-clause-unread : goal.returns-in-Ok-clause-unread
returns-in-Ok-clause-unread g c = inr (c.in-Ok.file, c.in-Ok.ensures.made)

pub returns-in-Ok-clause-before : goal.returns-in-Ok-clause-before
returns-in-Ok-clause-before g c = late_by_programs _ _ c.in-Ok.file c.checked_input.result _ c.checked_input.ensures.made

pub returns-in-Ok-clause-read_fault : goal.returns-in-Ok-clause-read_fault
returns-in-Ok-clause-read_fault g c = λ _. (c.in-Ok.file, c.in-Ok.ensures.made)

pub returns-in-Ok-clause-file_taken : goal.returns-in-Ok-clause-file_taken
returns-in-Ok-clause-file_taken g c = λ file tells. taken_for program_file file _ _ c.checked_input.result (c.in-Ok.ensures.taken file tells)

pub returns-in-Err-clause-made : goal.returns-in-Err-clause-made
returns-in-Err-clause-made g c = c.in-Err.ensures.made _ refl

pub returns-in-Err-clause-read_fault : goal.returns-in-Err-clause-read_fault
returns-in-Err-clause-read_fault g c = λ e. absurd (no_read_fault _ _ _ c.in-Err.ensures.made cc)
