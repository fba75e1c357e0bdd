use Rattle.std.proofs.Common.{arith}
use Rattle.qz_rewrite.proofs.SideSteps.{bit_added}
use Rattle.qz_rewrite.proofs.sides.with_qubit.Goals as goal

pub returns : goal.returns
returns c = λ w. bit_added c.args.bits c.args.t w (omega arith)
