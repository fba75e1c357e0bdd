use Rattle.std.proofs.Common.{◌≡◌, ◌<◌, ◌≤◌, ◌-◌, [], length, get_or, ap, ◌∙◌, arith}
use Rattle.std.proofs.lemmas.List.{length-map}
use Rattle.qz_circ.specs.ProgramCircuits.{cost}
use Rattle.qz_queue.specs.declared.priced.Priced.{Priced}
use Rattle.qz_queue.specs.Circuits.{circuits_of}
use Rattle.qz_queue.specs.HeldQueue.{queue_of}
use Rattle.qz_queue.proofs.Costs.{closed_exact, closed_refuses, last_is, last_price}
use Rattle.qz_queue.proofs.queue.Queue.is_closed_to_cost.Goals as goal

last_cost : (c : goal.In-Some) → c.in-Some.c.now.price ≡ cost c.self.inside.weights (get_or (circuits_of c.self.inside.list.items) (length (circuits_of c.self.inside.list.items) - 1) [])
last_cost c =
    let vs = c.self.inside.list.items in
    let some : 0 < length vs = rw c.deref.ensures.value at c.in-Some.ensures.item.3.0 in
    let here : (d : Priced) → c.in-Some.c.now ≡ get_or vs (length vs - 1) d = λ d. rw c.deref.ensures.value at (c.in-Some.ensures.item.3.1 d) in
    last_price c.self.inside.weights vs c.in-Some.c.now c.self.invariant.priced some here ∙ ap (cost c.self.inside.weights) (last_is vs c.in-Some.c.now some here)

pub returns-in-Some-clause-exact : goal.returns-in-Some-clause-exact
returns-in-Some-clause-exact c =
    let q = queue_of c.self.inside.cap c.self.inside.weights c.self.inside.list in
    let full : q.cap ≤ length q.list = omega (arith, length-map c.self.inside.list.items (λ p. p.gates.items), c.len.ensures, c.if-len-self.false, c.self.inside.list.ok.0) in
    rw (← c.self.view_is) (closed_exact q c.args.n c.in-Some.c.now.price c.self.invariant.lawful full (last_cost c))

pub returns-in-Some-clause-refused : goal.returns-in-Some-clause-refused
returns-in-Some-clause-refused c =
    let q = queue_of c.self.inside.cap c.self.inside.weights c.self.inside.list in
    let full : q.cap ≤ length q.list = omega (arith, length-map c.self.inside.list.items (λ p. p.gates.items), c.len.ensures, c.if-len-self.false, c.self.inside.list.ok.0) in
    let exact = closed_exact q c.args.n c.in-Some.c.now.price c.self.invariant.lawful full (last_cost c) in
    rw (← c.self.view_is) (λ h d dear. closed_refuses q c.args.n d c.self.invariant.lawful.ordered dear (exact.0 h))
