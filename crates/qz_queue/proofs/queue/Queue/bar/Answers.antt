use Rattle.std.proofs.Common.{◌≡◌, ◌<◌, ◌≤◌, ◌-◌, [], length, get_or, ◌∙◌, arith}
use Rattle.std.proofs.lemmas.List.{length-map}
use Rattle.qz_queue.specs.declared.priced.Priced.{Priced}
use Rattle.qz_queue.specs.Circuits.{circuits_of}
use Rattle.qz_queue.specs.HeldQueue.{queue_of}
use Rattle.qz_queue.proofs.Costs.{last_is, last_price}
use Rattle.qz_queue.proofs.LastOnes.{some_bar}
use Rattle.qz_queue.proofs.queue.Queue.bar.Goals as goal

pub returns-in-Some : goal.returns-in-Some
returns-in-Some c =
    let vs = c.self.inside.list.items in
    let q = queue_of c.self.inside.cap c.self.inside.weights c.self.inside.list in
    let full : q.cap ≤ length q.list = omega (arith, length-map vs (λ p. p.gates.items), c.len.ensures, c.if-len-self.false, c.self.inside.list.ok.0) in
    let some : 0 < length vs = rw c.deref.ensures.value at c.in-Some.ensures.item.3.0 in
    let here : (d : Priced) → c.in-Some.last.now ≡ get_or vs (length vs - 1) d = λ d. rw c.deref.ensures.value at (c.in-Some.ensures.item.3.1 d) in
    let last = last_is vs c.in-Some.last.now some here in
    let price = last_price c.self.inside.weights vs c.in-Some.last.now c.self.invariant.priced some here in
    rw (← c.self.view_is) (some_bar q c.args.c.now c.deref-in-Some.result.now c.bar_of.result c.self.invariant.lawful full (c.deref-in-Some.ensures.value ∙ last) (c.bar_of.ensures c.self.inside.weights (rw c.deref-in-Some.ensures.value price)))
