use Rattle.std.proofs.Common.{◌≡◌, ◌-◌, ◌/◌, ◌%◌, ◌≤◌, ◌∙◌, ap, arith, length}
use Rattle.qz_circ.specs.Order.{circuit_at}
use Rattle.qz_circ.proofs.BoundsLemmas.{in_range}
use Rattle.qz_circ.proofs.CircuitPlaces.{circuit_at-zero, circuit_at-within}
use Rattle.qz_circ.proofs.RankLemmas.{LastGate, last_gate, some_gate}
use Rattle.qz_circ.proofs.ranks.length_of.Goals as goal
use Rattle.qz_circ.proofs.ranks.length_of.Goals.{In-loop-rest, After-loop-rest}

last_of : (c : In-loop-rest) → LastGate c.args.b c.loop-rest.rest ((c.loop-rest.rest - 1) / c.gates-gates.result) ((c.loop-rest.rest - 1) % c.gates-gates.result)
last_of c = last_gate c.args.b c.gates-gates.ensures.lawful c.loop-rest.rest c.gates-gates.result c.gates-gates.ensures.value c.loop-rest-test.true c.loop-rest.invariant.listed

-- no circuit is longer than the limits allow
short : (c : In-loop-rest) → length (circuit_at c.args.b c.args.r) ≤ 6
short c = omega (arith, (circuit_at-within c.args.b c.args.r c.requires).short, (in_range c.args.b c.gates-gates.ensures.lawful).gates)

counted : (c : After-loop-rest) → c.loop-rest.len ≡ length (circuit_at c.args.b c.args.r)
counted c =
    let ended : c.loop-rest.rest ≡ 0 = omega arith in
    let none : length (circuit_at c.args.b c.loop-rest.rest) ≡ 0 = ap (λ r. length (circuit_at c.args.b r)) ended ∙ ap length (circuit_at-zero c.args.b) in
    omega (arith, none, c.loop-rest.invariant.counted)

pub nonzero_div-rest : goal.nonzero_div-rest
nonzero_div-rest c = some_gate c.args.b c.gates-gates.ensures.lawful c.gates-gates.result c.gates-gates.ensures.value

pub overflow_add-len : goal.overflow_add-len
overflow_add-len c = record { fits = omega (arith, short c, c.loop-rest.invariant.counted, (last_of c).longer) }

pub loop-rest-preserved : goal.loop-rest-preserved
loop-rest-preserved c = record { listed = (last_of c).listed; counted = omega (arith, (last_of c).longer, c.loop-rest.invariant.counted) }

pub returns-clause-length : goal.returns-clause-length
returns-clause-length c = counted c

pub returns-clause-short : goal.returns-clause-short
returns-clause-short c = omega (arith, counted c, (circuit_at-within c.args.b c.args.r c.requires).short)
