use Rattle.std.proofs.Common.{◌∙◌, refl, sym, arith}
use Rattle.qz_circ.proofs.DerivedOrders.{program_gates_by_key}
use Rattle.qz_queue.proofs.LastOnes.{found_before}
use Rattle.qz_queue.proofs.bar.bar_of.Goals as goal

pub returns-in-loop-k : goal.returns-in-loop-k
returns-in-loop-k c = λ ws dear.
    found_before ws c.args.last.now c.args.c.now _ c.loop-k.k _ c.cmp.result dear refl refl c.loop-k.invariant c.loop-k-test.true (omega (arith, c.if-k-c.false)) (c.cmp.ensures ∙ program_gates_by_key _ _) (sym c.is_ge.ensures ∙ c.if-is_ge.false)
