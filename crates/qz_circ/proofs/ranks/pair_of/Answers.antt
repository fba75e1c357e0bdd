use Rattle.std.proofs.Common.{◌-◌, ◌+◌, ◌/◌, ◌%◌, ◌∙◌, ap, arith, Some, cond, lt-ltb, le-ltb}
use Rattle.qz_circ.specs.declared.circuit.Op.TheVariants.{Cx}
use Rattle.qz_circ.proofs.GateNumbers.{cx_at}
use Rattle.qz_circ.proofs.ranks.pair_of.Goals as goal

pub returns-then-other-control : goal.returns-then-other-control
returns-then-other-control c n m grain h allowed =
    let control = c.args.number / (c.args.q - 1) in
    let other = c.args.number % (c.args.q - 1) in
    cx_at n c.args.q m grain (omega arith) c.requires.qubits h allowed c.args.number c.requires.pairs ∙ ap (λ b. Some (Cx control (cond b other (other + 1)))) (lt-ltb other control c.if-other-control.true)

pub returns-else-other-control : goal.returns-else-other-control
returns-else-other-control c n m grain h allowed =
    let control = c.args.number / (c.args.q - 1) in
    let other = c.args.number % (c.args.q - 1) in
    cx_at n c.args.q m grain (omega arith) c.requires.qubits h allowed c.args.number c.requires.pairs ∙ ap (λ b. Some (Cx control (cond b other (other + 1)))) (le-ltb other control c.if-other-control.false)
