use Rattle.std.proofs.Common.{sym, subst, rules}
use Rattle.qz_circ.specs.Bounds.{IsLawful}
use Rattle.qz_circ.specs.Circuit.{Within}
use Rattle.qz_circ.proofs.MoreParameters.{on_qubits}
use Rattle.qz_command_tests.proofs.meeting.home.Goals as goal

pub finger-requires : goal.finger-requires
finger-requires c =
    let lawful : IsLawful c.args.b = search rules in
    on_qubits c.args.b lawful c.args.probe.q c.requires.qubits c.deref.result.now (subst (Within c.args.b) (sym c.deref.ensures.value) c.in_ok-circuit.ensures.within)
