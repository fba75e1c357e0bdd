use Rattle.std.proofs.Common.{◌≤◌, ◌^◌, arith}
use Rattle.std.proofs.Math.Nat.{pow-le-pow_right}
use Rattle.std.proofs.lemmas.Nat.{one_shl}
use Rattle.qz_check.proofs.column.states_on.Goals as goal

pub returns-clause-few : goal.returns-clause-few
returns-clause-few c =
    let power : 2 ^ c.args.q ≤ 2 ^ 6 = pow-le-pow_right {n = 2} (omega arith) c.requires in
    omega (arith, one_shl c.args.q 64 (omega arith), power)
