use Rattle.std.proofs.Common.{◌≤◌, ◌^◌, arith}
use Rattle.std.proofs.Math.Nat.{pow-le-pow_left, pow-le-pow_right}
use Rattle.qz_circ.proofs.bound.refused.Goals as goal

pub pow-requires : goal.pow-requires
pow-requires c =
    let more : c.count_gates.result ^ c.args.n ≤ 132 ^ c.args.n = pow-le-pow_left c.count_gates.ensures.few c.args.n in
    let most : 132 ^ c.args.n ≤ 132 ^ 6 = pow-le-pow_right {n = 132} (omega arith) {i = c.args.n} {j = 6} (omega arith) in
    omega (arith, more, most)
