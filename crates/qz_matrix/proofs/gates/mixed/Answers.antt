use Rattle.std.proofs.Common.{ℕ, [], arith}
use Rattle.qz_circ.specs.declared.circuit.Op.TheVariants.{H}
use Rattle.qz_ring.specs.Terms.{Terms}
use Rattle.qz_matrix.specs.AfterGate.{IsNext}
use Rattle.qz_matrix.proofs.PushLemmas.{each_push}
use Rattle.qz_matrix.proofs.gates.mixed.Goals as goal

pub loop-k-preserved : goal.loop-k-preserved
loop-k-preserved c = record {
  filled = omega (arith, c.push_reserved.ensures.len);
  room = omega (arith, c.push_reserved.ensures.capacity);
  each = each_push (λ (m : ℕ) (ts : Terms). IsNext (H c.args.t) c.args.entries.now m ts) c.loop-k.mixed.items _ _ [] c.loop-k.k c.loop-k.invariant.filled c.push_reserved.ensures.items c.in-Ok-mixed_entry.ensures c.loop-k.invariant.each;
}
