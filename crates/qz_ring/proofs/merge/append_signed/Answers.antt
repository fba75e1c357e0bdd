use Rattle.std.proofs.Common.{arith}
use Rattle.qz_ring.proofs.Sums.{coefficient_within}
use Rattle.qz_ring.proofs.merge.append_signed.Goals as goal

pub with_sign-requires : goal.with_sign-requires
with_sign-requires c =
    let within = coefficient_within c.args.rest.now c.loop-term.term-index c.term-item.result (omega arith) c.term-item.is in
    omega arith
