use Rattle.std.proofs.Common.{refl, inr}
use Rattle.qz_top.proofs.AnswerLemmas.{no_read_fault}
use Rattle.qz_top.specs.Optimise.{rule_file}
use Rattle.qz_top.proofs.FileLemmas.{taken_for}
use Rattle.qz_top.proofs.OptimiseLemmas.{made_by_rules, late_by_rules}
use Rattle.qz_top.proofs.optimise.optimised_by.Goals as goal

pub returns-in-Ok-clause-made : goal.returns-in-Ok-clause-made
returns-in-Ok-clause-made g c = made_by_rules c.args.plan c.args.name.now c.in-Ok.rules (λ text. text.items) c.optimised_input.result _ _ (c.in-Ok.ensures.made c.args.plan) c.optimised_input.ensures.made

pub returns-in-Ok-clause-unread : goal.returns-in-Ok-clause-unread
returns-in-Ok-clause-unread g c = inr (c.in-Ok.rules, c.in-Ok.ensures.made c.args.plan)

pub returns-in-Ok-clause-before : goal.returns-in-Ok-clause-before
returns-in-Ok-clause-before g c = late_by_rules _ _ c.optimised_input.result _ c.optimised_input.ensures.made

pub returns-in-Ok-clause-read_fault : goal.returns-in-Ok-clause-read_fault
returns-in-Ok-clause-read_fault g c = λ _. (c.in-Ok.rules, c.in-Ok.ensures.made c.args.plan)

pub returns-in-Err-clause-made : goal.returns-in-Err-clause-made
returns-in-Err-clause-made g c = c.in-Err.ensures.made c.args.plan _ refl

pub returns-in-Err-clause-read_fault : goal.returns-in-Err-clause-read_fault
returns-in-Err-clause-read_fault g c = λ e. absurd (no_read_fault _ _ _ (c.in-Err.ensures.made c.args.plan) cc)

pub returns-in-Ok-clause-file_taken : goal.returns-in-Ok-clause-file_taken
returns-in-Ok-clause-file_taken g c = λ file tells. taken_for rule_file file _ _ c.optimised_input.result (c.in-Ok.ensures.file_taken file tells)
