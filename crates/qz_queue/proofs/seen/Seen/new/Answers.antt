use Rattle.std.proofs.Common.{sym, ap, subst, ◌∙◌}
use Rattle.qz_circ.specs.ProgramCircuits.{ones, program_cmp}
use Rattle.qz_circ.specs.Queue.{different}
use Rattle.qz_queue.specs.Circuits.{circuits_of, ArePriced}
use Rattle.qz_queue.proofs.seen.Seen.new.Goals as goal

pub invariant_of-result : goal.invariant_of-result
unfolding different
invariant_of-result c =
    record {
      ordered = ap (λ vs. different (program_cmp ones) (circuits_of vs)) c.new.ensures.items ∙ sym (ap circuits_of c.new.ensures.items);
      priced = subst (ArePriced ones) (sym c.new.ensures.items) tt;
    }
