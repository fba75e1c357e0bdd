use Rattle.std.proofs.Common.{◌≡◌, ◌<◌, ◌+◌, ◌*◌, ◌^◌, ◌≤◌, suc, sym, ap, subst, ◌∙◌, arith, add-one, length}
use Rattle.std.proofs.Math.Nat.{pow-suc, pow-le-pow_right}
use Rattle.qz_circ.specs.Circuit.{Limits}
use Rattle.qz_circ.specs.Bounds.{gate_count}
use Rattle.qz_circ.specs.Order.{all_circuits}
use Rattle.qz_circ.proofs.BoundsLemmas.{in_range, nine_gates}
use Rattle.qz_circ.proofs.CircuitLists.{shorter, length-all_circuits, few_circuits}
use Rattle.qz_circ.proofs.bound.Bounds.circuits.Goals as goal
use Rattle.qz_circ.proofs.bound.Bounds.circuits.Goals.{In-loop, After-loop}

-- one gate more, and there are still few circuits
longer : (c : In-loop) → c.loop.longest * c.gates-gates.result ≤ 8000000
longer c =
    let range = in_range c.args.self.now c.gates-gates.ensures.lawful in
    let nine = nine_gates c.args.self.now range in
    let gates = c.gates-gates.ensures.value in
    let n_is : c.self.inside.n ≡ c.args.self.now.n = ap (λ (b : Limits). b.n) c.self.view_is in
    let more = pow-le-pow_right {n = gate_count c.args.self.now} (omega arith) {i = suc c.loop.counter} {j = c.args.self.now.n} (omega arith) in
    let longest : c.loop.longest ≡ gate_count c.args.self.now ^ c.loop.counter = subst (λ g. c.loop.longest ≡ g ^ c.loop.counter) gates c.loop.invariant.longest in
    let product : c.loop.longest * c.gates-gates.result ≡ gate_count c.args.self.now ^ c.loop.counter * gate_count c.args.self.now = (λ i. longest i * gates i) in
    omega (arith, more, product, range.circuits, pow-suc (gate_count c.args.self.now) c.loop.counter)

-- all circuits, and fewer than nine millions
counted : (c : After-loop) → (c.loop.all ≡ length (all_circuits c.args.self.now)) × (c.loop.all < 9000000)
counted c =
    let range = in_range c.args.self.now c.gates-gates.ensures.lawful in
    let nine = nine_gates c.args.self.now range in
    let n_is : c.self.inside.n ≡ c.args.self.now.n = ap (λ (b : Limits). b.n) c.self.view_is in
    let ended : c.loop.counter + 1 ≡ suc c.args.self.now.n = omega arith in
    let all : c.loop.all ≡ shorter (gate_count c.args.self.now) (suc c.args.self.now.n) = c.loop.invariant.all ∙ (λ i. shorter (c.gates-gates.ensures.value i) (ended i)) in
    let few = few_circuits (gate_count c.args.self.now) c.args.self.now.n 1000000 nine range.circuits in
    (all ∙ sym (length-all_circuits c.args.self.now), omega (arith, all, few))

-- the circuits so far are few
so_far : (c : In-loop) → c.loop.all ≤ 9000000
so_far c =
    let range = in_range c.args.self.now c.gates-gates.ensures.lawful in
    let nine = nine_gates c.args.self.now range in
    let gates = c.gates-gates.ensures.value in
    let n_is : c.self.inside.n ≡ c.args.self.now.n = ap (λ (b : Limits). b.n) c.self.view_is in
    let fewer = pow-le-pow_right {n = gate_count c.args.self.now} (omega arith) {i = c.loop.counter} {j = c.args.self.now.n} (omega arith) in
    let all : c.loop.all ≡ shorter (gate_count c.args.self.now) (suc c.loop.counter) = c.loop.invariant.all ∙ (λ i. shorter (gates i) (add-one c.loop.counter i)) in
    omega (arith, all, few_circuits (gate_count c.args.self.now) c.loop.counter 1000000 nine (omega (arith, fewer, range.circuits)))

pub overflow_mul-longest : goal.overflow_mul-longest
overflow_mul-longest c = record { fits = omega (arith, longer c) }

pub overflow_add-all : goal.overflow_add-all
overflow_add-all c = record { fits = omega (arith, longer c, so_far c) }

pub returns-clause-value : goal.returns-clause-value
returns-clause-value c = (counted c).0

pub returns-clause-few : goal.returns-clause-few
returns-clause-few c = (counted c).1
