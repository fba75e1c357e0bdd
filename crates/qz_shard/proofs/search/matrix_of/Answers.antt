use Rattle.std.proofs.Common.{arith, ap, length, sym, subst}
use Rattle.qz_circ.proofs.BoundsLemmas.{in_range}
use Rattle.qz_circ.specs.Circuit.{Within}
use Rattle.qz_circ.proofs.MoreParameters.{on_qubits}
use Rattle.qz_shard.proofs.search.matrix_of.Goals as goal

-- a circuit within the bounds has a matrix
pub of-requires-clause-qubits : goal.of-requires-clause-qubits
of-requires-clause-qubits c = let range = in_range c.args.b c.q.ensures.lawful in (omega arith, omega arith)

pub of-requires-clause-gates : goal.of-requires-clause-gates
of-requires-clause-gates c = on_qubits c.args.b c.q.ensures.lawful c.q.result c.q.ensures.value c.deref.result.now (subst (Within c.args.b) (sym c.deref.ensures.value) c.in_ok-circuit.ensures.within)

pub of-requires-clause-short : goal.of-requires-clause-short
of-requires-clause-short c = let range = in_range c.args.b c.q.ensures.lawful in let same = ap length c.deref.ensures.value in omega (arith, same, c.in_ok-circuit.ensures.within.short)

pub returns-clause-few : goal.returns-clause-few
returns-clause-few c = let range = in_range c.args.b c.q.ensures.lawful in let same = ap length c.deref.ensures.value in omega (arith, same, c.in_ok-circuit.ensures.within.short, c.in_ok-matrix.ensures.stands.gates)
