use Rattle.std.proofs.Common.{◌<◌, ◌%◌, length, sym, ap, subst, ◌∙◌, arith}
use Rattle.qz_circ.specs.Order.{all_circuits}
use Rattle.qz_store.specs.declared.kept.Kept.{Kept}
use Rattle.qz_store.proofs.Claimed.{receipts_more}
use Rattle.qz_store.proofs.Lifted.{claimed_listed, pending_absent, lifted_number, last_item, put_becomes}
use Rattle.qz_store.proofs.store.Store.try_put_with_print.Goals as goal

pub add_with_print-requires-clause-listed : goal.add_with_print-requires-clause-listed
add_with_print-requires-clause-listed g c =
    let terms = c.requires.free.of.1 ∙ sym (ap (λ t. t.seats.terms) c.self.view_is) in
    let number = lifted_number _ _ _ _ c.self.invariant c.args.pass.now.view terms (λ (k : Kept). k.shard) (λ (k : Kept). k.names.value.items) _ _ c.in-Won.kept (omega arith) c.in-Won.ensures.gives.1 in
    subst (λ b. c.args.r < length (all_circuits b)) (sym number.bounds_are) (claimed_listed _ _ _ _ c.self.invariant c.args.pass.now.view terms c.args.r c.requires.pending.claimed)

pub add_with_print-requires-clause-new : goal.add_with_print-requires-clause-new
add_with_print-requires-clause-new g c =
    let terms = c.requires.free.of.1 ∙ sym (ap (λ t. t.seats.terms) c.self.view_is) in
    pending_absent _ _ _ _ c.self.invariant c.args.pass.now.view terms c.args.r _ c.in-Won.kept.shard.journal c.requires.pending c.in-Won.ensures.gives.2

pub returns-in-Ok-clause-gives : goal.returns-in-Ok-clause-gives
returns-in-Ok-clause-gives g c =
    let item = last_item c.in-Won.kept.shard.journal c.add_with_print.new.self.journal c.args.r _ _ (ap (λ x. x.journal) c.in-Ok.ensures.appended) c.settle_one.ensures.place c.settle_one.ensures.item in
    let becomes = put_becomes c.args.pass.now.view c.lift.new.pass.view c.settle_one.new.pass.view _ _ c.settle_one.result c.requires.free.free c.in-Won.ensures.gives.0 c.settle_one.ensures.view in
    record {
      item = item;
      home = c.settle_one.ensures.shard ∙ ap (λ print. print % 16) c.requires.print;
      becomes = becomes;
      receipts = receipts_more c.args.pass.now.view c.settle_one.new.pass.view c.settle_one.result c.args.r item becomes;
    }
