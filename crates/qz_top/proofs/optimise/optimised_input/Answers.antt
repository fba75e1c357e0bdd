use Rattle.qz_top.specs.Optimised.{IsOptimised}
use Rattle.qz_top.proofs.InputLemmas.{made_of_program}
use Rattle.qz_top.proofs.optimise.optimised_input.Goals as goal

pub returns-in-Ok-clause-made : goal.returns-in-Ok-clause-made
returns-in-Ok-clause-made g c = made_of_program (λ text p. IsOptimised c.args.rules.now c.args.plan p text.items) c.in-Ok.program c.optimised.result _ c.in-Ok.ensures.read c.optimised.ensures
