use Rattle.qz_top.specs.Optimise.{rule_file, RuleBytesAnswer}
use Rattle.qz_top.proofs.FileLemmas.{ends_by_file, taken_for}
use Rattle.qz_top.proofs.OptimiseLemmas.{rules_made}
use Rattle.qz_top.proofs.optimise.rules_in.Goals as goal

pub returns-in-Ok-clause-made : goal.returns-in-Ok-clause-made
returns-in-Ok-clause-made g c = λ plan.
    rules_made plan c.args.name.now c.in-Ok.bytes.items c.deref.result.now _ (λ rules. rules) c.rules_of.result c.deref.ensures.value c.in-Ok.ensures.made c.rules_of.ensures

pub returns-in-Ok-clause-file_taken : goal.returns-in-Ok-clause-file_taken
returns-in-Ok-clause-file_taken g c = λ file tells. taken_for rule_file file _ _ c.rules_of.result (c.in-Ok.ensures.taken file tells)

pub returns-in-Err-clause-made : goal.returns-in-Err-clause-made
returns-in-Err-clause-made g c = λ plan. ends_by_file rule_file c.args.name.now (RuleBytesAnswer plan) c.in-Err.status _ c.in-Err.ensures.made
