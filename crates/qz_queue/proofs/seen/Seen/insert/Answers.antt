use Rattle.std.proofs.Common.{◌≡◌, ◌∷◌, true, false, sym, ◌∙◌, rules}
use Rattle.std.specs.List.{insert}
use Rattle.qz_circ.specs.ProgramCircuits.{ones, cost, program_cmp}
use Rattle.qz_circ.proofs.ProgramOrder.{cost_ones}
use Rattle.qz_queue.specs.declared.priced.Priced.{Priced}
use Rattle.qz_circ.specs.Queue.{different}
use Rattle.qz_circ.specs.Search.{is_among}
use Rattle.qz_queue.specs.Circuits.{circuits_of, place_of}
use Rattle.qz_queue.proofs.QueueLists.{different_there, different_put, different_twice, priced_added}
use Rattle.qz_queue.proofs.seen.Seen.insert.Goals as goal

pub find-place-requires-clause-price : goal.find-place-requires-clause-price
find-place-requires-clause-price c =
    rw c.deref-2.ensures.value (c.len-price.ensures ∙ c.args.c.ok.0 ∙ sym (cost_ones c.args.c.items))

pub returns-then-found-clause-ok : goal.returns-then-found-clause-ok
returns-then-found-clause-ok c =
    let cs = circuits_of c.self.inside.list.items in
    let there : is_among cs c.args.c.items ≡ true = rw (c.deref.ensures.value, c.deref-2.ensures.value) at (sym c.find-place.ensures.there ∙ c.if-found.true) in
    rw (← c.self.view_is) (sym (different_there ones cs c.args.c.items c.self.invariant.ordered there))

price_is : (c : goal.Else-is_err) → c.len-price.result ≡ cost ones c.args.c.items
price_is c = c.len-price.ensures ∙ c.args.c.ok.0 ∙ sym (cost_ones c.args.c.items)

new_list : (c : goal.Else-is_err) → circuits_of c.insert.new.self.items ≡ different (program_cmp ones) (c.args.c.items ∷ circuits_of c.self.inside.list.items)
new_list c =
    let vs = c.self.inside.list.items in
    let at : c.find-place.result.0 ≡ place_of ones (circuits_of vs) c.args.c.items = rw (c.deref.ensures.value, c.deref-2.ensures.value) at c.find-place.ensures.place in
    let missing : is_among (circuits_of vs) c.args.c.items ≡ false = rw (c.deref.ensures.value, c.deref-2.ensures.value) at (sym c.find-place.ensures.there ∙ c.if-found.false) in
    let items : c.insert.new.self.items ≡ insert vs c.find-place.result.0 (record { price = c.len-price.result; gates = c.args.c }) = search rules in
    different_put ones vs (record { price = c.len-price.result; gates = c.args.c }) c.find-place.result.0 c.insert.new.self.items c.self.invariant.ordered at missing items

pub invariant_of-self-2 : goal.invariant_of-self-2
invariant_of-self-2 c =
    let vs = c.self.inside.list.items in
    let p : Priced = record { price = c.len-price.result; gates = c.args.c } in
    let items : c.insert.new.self.items ≡ insert vs c.find-place.result.0 p = search rules in
    record {
      ordered = different_twice ones _ _ (new_list c);
      priced = priced_added ones c.find-place.result.0 vs c.insert.new.self.items p (price_is c) c.self.invariant.priced items;
    }

pub returns-clause-ok : goal.returns-clause-ok
returns-clause-ok c = rw (← c.self.view_is) (new_list c)
