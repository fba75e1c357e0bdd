use Rattle.std.proofs.Common.{sym, subst}
use Rattle.qz_circ.specs.Circuit.{Within}
use Rattle.qz_circ.proofs.MoreParameters.{on_qubits}
use Rattle.qz_store.proofs.store.Store.try_put.Goals as goal

-- the circuit has a fingerprint
pub finger-print-requires : goal.finger-print-requires
finger-print-requires g c = on_qubits c.self.inside.bounds c.self.invariant.lawful c.self.inside.probe.q c.self.invariant.qubits c.deref.result.now (subst (Within c.self.inside.bounds) (sym c.deref.ensures.value) c.in-Ok.ensures.within)
