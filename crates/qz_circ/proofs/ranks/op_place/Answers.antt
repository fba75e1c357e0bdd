use Rattle.std.proofs.Common.{◌≡◌, ◌+◌, ◌-◌, ◌*◌, ◌∙◌, sym, ap, arith, Some, ltb, cond, lt-ltb, le-ltb}
use Rattle.qz_circ.proofs.GateNumbers.{gate_number, gate_place, angle_number, angle_count, angle_table, angle_of_gate}
use Rattle.qz_circ.proofs.ranks.op_place.Goals as goal
use Rattle.qz_circ.proofs.ranks.op_place.Goals.{then-c-t, else-c-t}

pub returns-in-H : goal.returns-in-H
returns-in-H c n k h = omega (arith, gate_place n c.args.q c.args.m c.args.grain k c.args.op c.requires.some_qubit c.requires.qubits c.requires.params c.requires.grain h, ap (gate_number c.args.q c.args.m c.args.grain) c.in-H.is)

pub returns-in-X : goal.returns-in-X
returns-in-X c n k h = omega (arith, gate_place n c.args.q c.args.m c.args.grain k c.args.op c.requires.some_qubit c.requires.qubits c.requires.params c.requires.grain h, ap (gate_number c.args.q c.args.m c.args.grain) c.in-X.is)

pub returns-after-c-t : goal.returns-after-c-t
returns-after-c-t c n k h =
    let number : 2 * c.args.q + c.in-Cx.c * (c.args.q - 1) + cond (ltb c.in-Cx.c c.in-Cx.t) (c.in-Cx.t - 1) c.in-Cx.t ≡ k = sym (ap (gate_number c.args.q c.args.m c.args.grain) c.in-Cx.is) ∙ gate_place n c.args.q c.args.m c.args.grain k c.args.op c.requires.some_qubit c.requires.qubits c.requires.params c.requires.grain h in
    let control : c.from-in-Cx.result * (c.args.q - 1) ≡ c.in-Cx.c * (c.args.q - 1) = ap (λ x. x * (c.args.q - 1)) c.from-in-Cx.ensures in
    elim c.if-c-t.branch [
      | then-c-t w ↦ let other : cond (ltb c.in-Cx.c c.in-Cx.t) (c.in-Cx.t - 1) c.in-Cx.t ≡ c.in-Cx.t - 1 = ap (λ b. cond b (c.in-Cx.t - 1) c.in-Cx.t) (lt-ltb c.in-Cx.c c.in-Cx.t w.if-c-t.true) in omega (arith, number, control, other)
      | else-c-t w ↦ let other : cond (ltb c.in-Cx.c c.in-Cx.t) (c.in-Cx.t - 1) c.in-Cx.t ≡ c.in-Cx.t = ap (λ b. cond b (c.in-Cx.t - 1) c.in-Cx.t) (le-ltb c.in-Cx.c c.in-Cx.t w.if-c-t.false) in omega (arith, number, control, other)
    ]

pub returns-in-Rz : goal.returns-in-Rz
returns-in-Rz c n k h =
    let number : c.args.q + c.args.q * c.args.q + c.in-Rz.t * angle_count c.args.m c.args.grain + angle_number c.args.m c.args.grain c.in-Rz.angle ≡ k = sym (ap (gate_number c.args.q c.args.m c.args.grain) c.in-Rz.is) ∙ gate_place n c.args.q c.args.m c.args.grain k c.args.op c.requires.some_qubit c.requires.qubits c.requires.params c.requires.grain h in
    let turn : c.from-in-Rz.result * c.count_angles.result ≡ c.in-Rz.t * angle_count c.args.m c.args.grain = λ i. c.from-in-Rz.ensures i * (c.count_angles.ensures.count ∙ (angle_table c.args.m c.args.grain c.requires.params c.requires.grain).count) i in
    let angle = c.angle_place.ensures.place (angle_number c.args.m c.args.grain c.in-Rz.angle) (angle_of_gate n c.args.q c.args.m c.args.grain k c.in-Rz.t c.in-Rz.angle c.requires.params c.requires.grain (h ∙ ap Some c.in-Rz.is)) in
    omega (arith, number, turn, angle)
