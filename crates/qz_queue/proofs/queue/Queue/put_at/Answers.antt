use Rattle.std.proofs.Common.{◌≡◌, ◌≤◌, ◌-◌, ◌∷◌, length, arith}
use Rattle.std.specs.Ordering.{is_lt}
use Rattle.std.proofs.lemmas.List.{length-map}
use Rattle.std.proofs.lemmas.List.Sums.{count_by-le-length}
use Rattle.qz_circ.specs.ProgramCircuits.{program_cmp}
use Rattle.qz_circ.specs.Queue.{firsts}
use Rattle.qz_queue.specs.Circuits.{circuits_of, ArePriced}
use Rattle.qz_queue.specs.HeldQueue.{queue_of, IsPlace}
use Rattle.qz_queue.proofs.QueueLists.{list_put, priced_put, held_first}
use Rattle.qz_queue.proofs.queue.Queue.put_at.Goals as goal

put_list : (c : goal.After-put) → circuits_of c.put.new.list.items ≡ firsts c.self.inside.weights c.self.inside.cap (c.args.c.items ∷ circuits_of c.self.inside.list.items)
put_list c =
    let held = c.self.inside.list.items in
    let place : IsPlace (queue_of c.self.inside.cap c.self.inside.weights c.self.inside.list) c.args.c.items c.args.place = rw (← c.self.view_is) at c.requires.place in
    let few = count_by-le-length (λ d. is_lt (program_cmp c.self.inside.weights d c.args.c.items)) (circuits_of held) in
    let within : c.args.place ≤ length held = omega (arith, place.at, few, length-map held (λ p. p.gates.items)) in
    list_put c.self.inside.weights c.self.inside.cap held (record { price = c.args.price; gates = c.args.c }) c.args.place c.put.new.list.items c.self.invariant.lawful.ordered place.at within (λ e. omega (arith, e, place.below)) place.missing c.put.ensures.items

put_priced : (c : goal.After-put) → ArePriced c.self.inside.weights c.put.new.list.items
put_priced c =
    priced_put c.self.inside.weights (c.self.inside.cap - 1) c.args.place c.self.inside.list.items c.put.new.list.items (record { price = c.args.price; gates = c.args.c }) (rw (← c.self.view_is) at c.requires.price) c.self.invariant.priced c.put.ensures.items

pub invariant_of-self : goal.invariant_of-self
invariant_of-self c =
    held_first c.self.inside.weights c.self.inside.cap c.self.inside.list c.put.new.list (c.args.c.items ∷ circuits_of c.self.inside.list.items) c.self.invariant (put_priced c) (put_list c) c.put.ensures.room

pub returns : goal.returns
returns c =
    let e = put_list c in
    rw (← c.self.view_is) (λ i. record { cap = c.self.inside.cap; weights = c.self.inside.weights; list = e i })
