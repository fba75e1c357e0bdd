use Rattle.std.proofs.Common.{arith}
use Rattle.qz_circ.proofs.BoundsLemmas.{in_range}
use Rattle.qz_crew.proofs.lengths.generate.Goals as goal

pub new-probe-requires : goal.new-probe-requires
new-probe-requires g c = let range = in_range c.args.b c.q.ensures.lawful in (omega (arith, c.q.ensures.value, range.some_qubit), omega (arith, c.q.ensures.value, range.qubits))
