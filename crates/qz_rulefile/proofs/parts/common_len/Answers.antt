use Rattle.std.proofs.Common.{◌∙◌, sym, arith}
use Rattle.qz_rulefile.proofs.PartSteps.{one_more_shared, text_ended, bytes_ended, bytes_differ}
use Rattle.qz_rulefile.proofs.parts.common_len.Goals as goal

pub returns-then-n-bytes-clause-common : goal.returns-then-n-bytes-clause-common
returns-then-n-bytes-clause-common c = omega (arith, c.loop-n.invariant.same, bytes_ended c.args.text.now c.args.bytes.now c.loop-n.n (omega arith))

pub returns-then-text-n-clause-common : goal.returns-then-text-n-clause-common
returns-then-text-n-clause-common c = omega (arith, c.loop-n.invariant.same, bytes_differ c.args.text.now c.args.bytes.now c.loop-n.n (omega arith) (omega arith) c.if-text-n.true)

pub loop-n-preserved : goal.loop-n-preserved
loop-n-preserved c = record {
  same = sym (one_more_shared c.args.text.now c.args.bytes.now c.loop-n.n (omega arith) (omega arith) c.if-text-n.false) ∙ c.loop-n.invariant.same;
  within_text = omega arith;
  within = omega arith;
}

pub returns-clause-common : goal.returns-clause-common
returns-clause-common c = omega (arith, c.loop-n.invariant.same, text_ended c.args.text.now c.args.bytes.now c.loop-n.n (omega arith))
