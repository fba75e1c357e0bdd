use Rattle.std.proofs.Common.{[], ◌∙◌, ◌-◌, ◌+◌, sym, ap, arith}
use Rattle.qz_rulefile.specs.Reading.{class_at}
use Rattle.qz_rulefile.specs.Flat.{Kept, class_onto, folded_at, with_class}
use Rattle.qz_rulefile.proofs.Folds.{folded_next, folded_fails, folded_done, folded_all, next_class, no_class, handed_on}
use Rattle.qz_rulefile.proofs.WholeFiles.{from_empty}
use Rattle.qz_rulefile.proofs.class_reader.classes.Goals as goal

pub loop-init : goal.loop-init
loop-init c =
    folded_all with_class (record { members = c.new-ranks.result.items; ends = c.new-ends.result.items }) (class_at c.args.texts.now.bounds) c.args.count c.args.bytes.now
    ∙ from_empty c.args.texts.now.bounds c.new-ranks.result.items c.new-ends.result.items c.args.bytes.now c.args.count c.new-ranks.ensures.items c.new-ends.ensures.items

pub returns-in-Err : goal.returns-in-Err
returns-in-Err c =
    let kept : Kept = record { members = c.loop.ranks.items; ends = c.loop.ends.items } in
    handed_on c.in-Err.fault (class_onto kept (class_at c.args.texts.now.bounds c.loop.rest.now))
    (folded_at with_class (record { members = []; ends = [] }) (class_at c.args.texts.now.bounds) c.args.count c.args.bytes.now) c.in-Err.ensures
    (λ n e. sym c.loop.invariant ∙ folded_fails with_class kept (class_at c.args.texts.now.bounds) c.args.count c.loop.counter c.loop.rest.now n (omega arith) (no_class kept (class_at c.args.texts.now.bounds c.loop.rest.now) n e))

pub loop-preserved : goal.loop-preserved
loop-preserved c =
    let kept : Kept = record { members = c.loop.ranks.items; ends = c.loop.ends.items } in
    let next : Kept = record { members = c.class.new.ranks.items; ends = c.class.new.ends.items } in
    let t = next_class kept next (class_at c.args.texts.now.bounds c.loop.rest.now) c.in-Ok.behind.now c.in-Ok.ensures in
    ap (λ (k : Kept). folded_at with_class k (class_at c.args.texts.now.bounds) (c.args.count - (c.loop.counter + 1)) c.in-Ok.behind.now) (sym t.2)
    ∙ sym (folded_next with_class kept (class_at c.args.texts.now.bounds) c.args.count c.loop.counter c.loop.rest.now t.0 c.in-Ok.behind.now (omega arith) t.1) ∙ c.loop.invariant

pub returns : goal.returns
returns c = sym c.loop.invariant ∙ folded_done with_class (record { members = c.loop.ranks.items; ends = c.loop.ends.items }) (class_at c.args.texts.now.bounds) c.args.count c.loop.counter c.loop.rest.now (omega arith)
