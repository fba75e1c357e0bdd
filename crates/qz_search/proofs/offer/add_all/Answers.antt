use Rattle.std.proofs.Common.{◌++◌, take, ap, ◌∙◌}
use Rattle.qz_circ.specs.ProgramCircuits.{ones, program_cmp}
use Rattle.qz_circ.specs.Queue.{different}
use Rattle.qz_circ.specs.Vectors.{lists_of}
use Rattle.qz_search.proofs.Offering.{seen_step, batch_more}
use Rattle.qz_search.proofs.offer.add_all.Goals as goal

pub loop-c-preserved : goal.loop-c-preserved
loop-c-preserved c = λ all h.
    let vs = c.args.batch.now in
    let copied = rw (c.in_ok-copy_of.ensures, c.deref.ensures.value) at c.in_ok-insert.ensures.ok in
    seen_step c.loop-c.seen c.insert.new.self (all ++ lists_of (take c.loop-c.c-index vs)) c.c-item.result.items (c.loop-c.invariant all h) copied
    ∙ ap (different (program_cmp ones)) (batch_more all vs c.loop-c.c-index c.c-item.result c.loop-c-test.true c.c-item.is)
