use Rattle.std.proofs.Common.{◌≡◌, ◌+◌, ◌*◌, ◌/◌, ◌%◌, ◌∙◌, sym, ap, arith, Option, Some, None, slice_get, mod-lt}
use Rattle.std.proofs.lemmas.Option.{slice_get_past}
use Rattle.qz_circ.specs.declared.circuit.Expr.{Expr}
use Rattle.qz_circ.specs.declared.circuit.Op.TheVariants.{Rz}
use Rattle.qz_circ.specs.Circuit.{gates_of, angles}
use Rattle.qz_circ.proofs.GateNumbers.{gates_have_length, rz_at, angle_count, angle_at, angle_table, angle_listed}
use Rattle.qz_circ.proofs.ranks.rotation_of.Goals as goal
use Rattle.qz_circ.proofs.ranks.rotation_of.Goals.{After-angle_of}

pub returns-then-number-q : goal.returns-then-number-q
returns-then-number-q c n =
    let count : c.args.q * c.count_angles-angles.result ≡ c.args.q * angle_count c.args.m c.args.grain = ap (λ k. c.args.q * k) (c.count_angles-angles.ensures.count ∙ (angle_table c.args.m c.args.grain c.requires.params c.requires.grain).count) in
    sym (slice_get_past (gates_of (record { n = n; q = c.args.q; m = c.args.m; grain = c.args.grain })) (c.args.q + c.args.q * c.args.q + c.args.number)
    (omega (arith, count, gates_have_length n c.args.q c.args.m c.args.grain c.requires.some_qubit c.requires.qubits c.requires.params c.requires.grain)))

-- the angle is there, since its number is below their count
angle_is : (c : After-angle_of) → c.angle_of.result ≡ Some (angle_at c.args.m c.args.grain (c.args.number % angle_count c.args.m c.args.grain))
angle_is c =
    let count = c.count_angles-angles.ensures.count ∙ (angle_table c.args.m c.args.grain c.requires.params c.requires.grain).count in
    c.angle_of.ensures ∙ ap (λ k. slice_get (angles c.args.m c.args.grain) (c.args.number % k)) count ∙ angle_listed c.args.m c.args.grain (c.args.number % angle_count c.args.m c.args.grain) c.requires.params c.requires.grain (omega (arith, (angle_table c.args.m c.args.grain c.requires.params c.requires.grain).count, mod-lt c.args.number {m = angle_count c.args.m c.args.grain} (omega arith)))

pub returns-in-Some : goal.returns-in-Some
returns-in-Some c n =
    let count : c.count_angles-angles.result ≡ angle_count c.args.m c.args.grain = c.count_angles-angles.ensures.count ∙ (angle_table c.args.m c.args.grain c.requires.params c.requires.grain).count in
    let product : c.args.q * c.count_angles-angles.result ≡ c.args.q * angle_count c.args.m c.args.grain = ap (λ k. c.args.q * k) count in
    let angle : c.in-Some.angle ≡ angle_at c.args.m c.args.grain (c.args.number % angle_count c.args.m c.args.grain) = cc (angle_is c.before, c.in-Some.is) in
    (λ i. Some (Rz (c.args.number / count i) (angle i))) ∙ sym (rz_at n c.args.q c.args.m c.args.grain c.requires.some_qubit c.requires.qubits c.requires.params c.requires.grain c.args.number (omega (arith, product)))

pub returns-in-None : goal.returns-in-None
returns-in-None c n = let none : ◌≡◌ {A = Option Expr} None (Some (angle_at c.args.m c.args.grain (c.args.number % angle_count c.args.m c.args.grain))) = sym c.in-None.is ∙ angle_is c.before in cc
