use Rattle.std.proofs.Common.{arith}
use Rattle.qz_circ.proofs.BoundsLemmas.{in_range}
use Rattle.qz_store_tests.proofs.rounds.put_for_the_other.Goals as goal

pub new-requires : goal.new-requires
new-requires g c = let range = in_range c.args.b c.q.ensures.lawful in (omega arith, omega arith)
