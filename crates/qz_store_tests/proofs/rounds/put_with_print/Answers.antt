use Rattle.std.proofs.Common.{sym, ap, subst, ◌∙◌}
use Rattle.qz_circ.specs.Bounds.{IsLawful}
use Rattle.qz_circ.specs.Circuit.{Within}
use Rattle.qz_circ.proofs.MoreParameters.{on_qubits}
use Rattle.qz_store_tests.proofs.rounds.put_with_print.Goals as goal

-- the circuit has a fingerprint
pub finger-print-requires : goal.finger-print-requires
finger-print-requires g c =
    on_qubits c.bounds.result (subst IsLawful (sym c.bounds.ensures.value) c.bounds.ensures.lawful) c.probe.result.q
    (ap (λ p. p.q) c.probe.ensures.value ∙ (c.probe.ensures.qubits ∙ sym (ap (λ b. b.q) c.bounds.ensures.value)))
    c.deref.result.now (subst (Within c.bounds.result) (sym c.deref.ensures.value) c.in-Ok.ensures.within)
