use Rattle.std.proofs.Common.{length, ap, subst, sym, ◌∙◌, arith}
use Rattle.std.proofs.lemmas.List.FromFn.{length-map-range_with_len}
use Rattle.std.specs.List.{AllByRecursion}
use Rattle.qz_circ.specs.ProgramCircuits.{ProgramCircuit, IsProgramGate}
use Rattle.qz_top.specs.Trial.{trial_gate}
use Rattle.qz_top.proofs.OptimisedLemmas.{wider_gates}
use Rattle.qz_top.proofs.trial.trial_text.Goals as goal

pub found-requires-clause-few : goal.found-requires-clause-few
found-requires-clause-few c =
    omega (arith, c.requires.short, ap length (c.deref.ensures.value ∙ c.in_ok-before.ensures.circuit), length-map-range_with_len (trial_gate c.args.seed c.args.qubits) 0 c.args.gates)

pub found-requires-clause-gates : goal.found-requires-clause-gates
found-requires-clause-gates c =
    subst (λ (gs : ProgramCircuit). AllByRecursion (IsProgramGate 64) gs) (sym c.deref.ensures.value) (wider_gates c.args.qubits c.in_ok-before.before.items c.requires.few c.in_ok-before.ensures.gates)
