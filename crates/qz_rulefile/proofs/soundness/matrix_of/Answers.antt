use Rattle.std.proofs.Common.{length, ap, ◌∙◌, arith}
use Rattle.qz_circ.specs.Circuit.{Limits}
use Rattle.qz_circ.proofs.BoundsLemmas.{in_range}
use Rattle.qz_circ.proofs.MoreParameters.{on_qubits}
use Rattle.qz_rulefile.proofs.soundness.matrix_of.Goals as goal

pub of-requires-clause-qubits : goal.of-requires-clause-qubits
of-requires-clause-qubits c = let range = in_range c.bounds.result c.q.ensures.lawful in (omega arith, omega arith)

pub of-requires-clause-gates : goal.of-requires-clause-gates
of-requires-clause-gates c =
    let lawful = rw c.bounds.ensures.bounds at c.q.ensures.lawful in
    rw c.deref.ensures.value (on_qubits c.args.lists.now.bounds lawful c.q.result (c.q.ensures.value ∙ ap (λ (b : Limits). b.q) c.bounds.ensures.bounds) c.in_ok-circuit.circuit.items c.in_ok-circuit.ensures.within)

pub of-requires-clause-short : goal.of-requires-clause-short
of-requires-clause-short c =
    let lawful = rw c.bounds.ensures.bounds at c.q.ensures.lawful in
    omega (arith, ap length c.deref.ensures.value, c.in_ok-circuit.ensures.within.short, (in_range c.args.lists.now.bounds lawful).gates)

pub returns-clause-few : goal.returns-clause-few
returns-clause-few c =
    let lawful = rw c.bounds.ensures.bounds at c.q.ensures.lawful in
    omega (arith, c.in_ok-matrix.ensures.stands.gates, ap length c.deref.ensures.value, c.in_ok-circuit.ensures.within.short, (in_range c.args.lists.now.bounds lawful).gates)
