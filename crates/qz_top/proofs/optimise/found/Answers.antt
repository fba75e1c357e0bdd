use Rattle.std.proofs.Common.{subst, sym}
use Rattle.std.specs.List.{AllByRecursion}
use Rattle.qz_circ.specs.Registers.{total_size}
use Rattle.qz_circ.specs.ProgramCircuits.{ProgramCircuit, IsProgramGate}
use Rattle.qz_top.proofs.OptimisedLemmas.{wider_gates, circuit_found}
use Rattle.qz_top.proofs.optimise.found.Goals as goal

pub search-requires-clause-gates : goal.search-requires-clause-gates
search-requires-clause-gates c =
    subst (λ (gs : ProgramCircuit). AllByRecursion (IsProgramGate 64) gs) (sym c.gates.ensures) (wider_gates (total_size c.args.program.now.qregs) c.args.program.now.gates c.requires.gates.few c.requires.gates.gates)

pub returns : goal.returns
returns c =
    circuit_found (λ d. d.items) c.args.rules.now c.args.plan c.args.program.now _ c.search.result c.requires c.gates.ensures
    (record { best = c.search.ensures.best; cheap = c.search.ensures.cheap; short = c.search.ensures.short; lawful = c.search.ensures.lawful; equivalent = c.search.ensures.equivalent })
