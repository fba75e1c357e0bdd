use Rattle.std.proofs.Common.{sym, subst, ap, ◌∙◌, arith}
use Rattle.qz_circ.specs.Circuit.{Within}
use Rattle.qz_circ.proofs.BoundsLemmas.{in_range}
use Rattle.qz_circ.proofs.MoreParameters.{on_qubits}
use Rattle.qz_shard.proofs.shard.Shard.add.Goals as goal

-- the probe is for the bounds' qubits
pub new-probe-requires : goal.new-probe-requires
new-probe-requires g c = let range = in_range c.self.inside.bounds c.q.ensures.lawful in (omega (arith, c.q.ensures.value, range.some_qubit), omega (arith, c.q.ensures.value, range.qubits))

-- the circuit has a fingerprint
pub finger-print-requires : goal.finger-print-requires
finger-print-requires g c = on_qubits c.self.inside.bounds c.self.invariant.shard.lawful _ (ap (λ p. p.q) c.new-probe.ensures ∙ c.q.ensures.value) c.deref.result.now (subst (Within c.self.inside.bounds) (sym c.deref.ensures.value) c.in_ok-circuit.ensures.within)
