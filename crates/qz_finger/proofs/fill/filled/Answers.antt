use Rattle.std.proofs.Common.{refl, arith}
use Rattle.qz_finger.proofs.Lists.{zeros_below}
use Rattle.qz_finger.proofs.fill.filled.Goals as goal

pub loop-k-init : goal.loop-k-init
loop-k-init g c = record { size = refl; filled = λ m h. absurd (omega arith); below = zeros_below 64 }
