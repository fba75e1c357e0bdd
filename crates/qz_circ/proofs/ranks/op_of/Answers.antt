use Rattle.std.proofs.Common.{rules, ◌≡◌, slice_get, IsSome, ◌↔◌, ◌<◌, sym, subst, ap, ◌∙◌, arith, Option, length}
use Rattle.qz_circ.proofs.BoundsLemmas.{in_range}
use Rattle.qz_circ.specs.Circuit.{gates_of}
use Rattle.qz_circ.specs.Bounds.{is_grain, gate_count}
use Rattle.qz_circ.specs.declared.circuit.Op.{Op}
use Rattle.qz_circ.proofs.GateNumbers.{listed_within}
use Rattle.qz_circ.proofs.ranks.op_of.Goals as goal

pub gate_of-requires-clause-some_qubit : goal.gate_of-requires-clause-some_qubit
gate_of-requires-clause-some_qubit c = omega (arith, (in_range c.args.b c.q.ensures.lawful).some_qubit)

pub gate_of-requires-clause-qubits : goal.gate_of-requires-clause-qubits
gate_of-requires-clause-qubits c = omega (arith, (in_range c.args.b c.q.ensures.lawful).qubits)

pub gate_of-requires-clause-params : goal.gate_of-requires-clause-params
gate_of-requires-clause-params c = omega (arith, (in_range c.args.b c.q.ensures.lawful).params)

pub gate_of-requires-clause-grain : goal.gate_of-requires-clause-grain
gate_of-requires-clause-grain c = c.grain.ensures.allowed

pub returns-clause-within : goal.returns-clause-within
unfolding gate_count
returns-clause-within c =
    let listed : c.gate_of.result ≡ slice_get (gates_of c.args.b) c.args.number = search rules in
    subst (λ (found : Option Op). IsSome found ↔ c.args.number < length (gates_of c.args.b)) (sym listed) (listed_within (gates_of c.args.b) c.args.number)
