use Rattle.std.proofs.Common.{sym, ap, ◌∙◌, ◌+◌, ◌*◌}
use Rattle.qz_circ.proofs.BoundsLemmas.{gate_count_is}
use Rattle.qz_circ.proofs.GateNumbers.{angle_table}
use Rattle.qz_circ.proofs.bound.count_gates.Goals as goal

pub returns-clause-count : goal.returns-clause-count
returns-clause-count c n =
    ap (λ k. c.args.q * (1 + c.args.q + k)) (c.count_angles.ensures.count ∙ (angle_table c.args.m c.args.grain c.requires.params c.requires.grain).count) ∙
    sym (gate_count_is n c.args.q c.args.m c.args.grain c.requires.qubits c.requires.params c.requires.grain)
