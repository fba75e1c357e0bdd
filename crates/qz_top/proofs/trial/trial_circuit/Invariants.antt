use Rattle.std.proofs.Common.{◌≡◌, ◌*◌, map}
use Rattle.qz_circ.specs.Circuit.{below}
use Rattle.qz_random.specs.RandomWords.{generator_after}
use Rattle.qz_top.specs.Trial.{trial_gate}
use Rattle.qz_top.proofs.trial.trial_circuit.Given as goal

abbrev pub invariant-loop-k : goal.invariant-loop-k
invariant-loop-k l = record {
  words : l.words ≡ generator_after l.seed (3 * l._k);
  circuit : l.circuit.items ≡ map (trial_gate l.seed l.qubits) (below l._k);
}
