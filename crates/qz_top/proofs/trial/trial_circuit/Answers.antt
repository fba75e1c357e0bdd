use Rattle.std.proofs.Common.{◌≡◌, ◌++◌, ◌∷◌, [], rules, subst, sym, zero-add, refl}
use Rattle.std.specs.List.{AllByRecursion}
use Rattle.std.proofs.lemmas.List.FromFn.{map-range_with_len_more}
use Rattle.qz_circ.specs.ProgramCircuits.{ProgramCircuit, IsProgramGate}
use Rattle.qz_top.specs.Trial.{trial_gate}
use Rattle.qz_top.proofs.TrialLemmas.{trial_gates_fit}
use Rattle.qz_top.proofs.trial.trial_circuit.Goals as goal

pub loop-k-preserved : goal.loop-k-preserved
loop-k-preserved c =
    let pushed : c.push.new.self.items ≡ c.loop-k.circuit.items ++ c.next_gate-gate.result ∷ [] = search rules in
    let gate = c.next_gate-gate.ensures.gate c.args.seed c.loop-k._k c.loop-k.invariant.words in
    record {
      words = c.next_gate-gate.ensures.moved c.args.seed c.loop-k._k c.loop-k.invariant.words;
      circuit = rw (pushed, gate, c.loop-k.invariant.circuit, map-range_with_len_more (trial_gate c.args.seed c.args.qubits) 0 c.loop-k._k c.loop-k._k (zero-add _)) refl;
    }

pub returns-clause-gates : goal.returns-clause-gates
returns-clause-gates c =
    subst (λ (gs : ProgramCircuit). AllByRecursion (IsProgramGate c.args.qubits) gs) (sym c.loop-k.invariant.circuit) (trial_gates_fit c.args.seed c.args.qubits c.loop-k._k c.requires.some)
