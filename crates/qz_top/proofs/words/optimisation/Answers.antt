use Rattle.std.proofs.Common.{sym, ap, ◌∙◌, Err}
use Rattle.qz_top.specs.declared.words.WordFault.TheVariants.{Limit}
use Rattle.qz_top.proofs.WordLemmas.{optimisation_refused, optimisation_planned}
use Rattle.qz_top.proofs.words.optimisation.Goals as goal

pub returns-in-Ok-clause-command : goal.returns-in-Ok-clause-command
returns-in-Ok-clause-command c =
    rw (c.unless_passed.ensures.command, c.workers_limit.ensures.limit, c.workers.ensures, c.workers-in-Ok.ensures, c.in-Ok.ensures.0) (sym (optimisation_planned c.args.rules c.args.given c.in-Ok.ensures.1))

pub returns-in-Err-clause-command : goal.returns-in-Err-clause-command
returns-in-Err-clause-command c = ap (λ w. Err (Limit w)) c.limit_of_plan.ensures ∙ optimisation_refused c.args.rules c.args.given c.in-Err.fault c.in-Err.ensures
