use Rattle.qz_top.proofs.OptimisedLemmas.{circuit_found}
use Rattle.qz_top.proofs.optimise.found_by.Goals as goal

pub returns : goal.returns
returns g c =
    circuit_found (λ d. d.items) c.args.rules.now c.args.plan c.args.program.now _ c.hunt.result c.requires.valid c.gates.ensures
    (record { best = c.hunt.ensures.best; cheap = c.hunt.ensures.cheap; short = c.hunt.ensures.short; lawful = c.hunt.ensures.lawful; equivalent = c.hunt.ensures.equivalent })
