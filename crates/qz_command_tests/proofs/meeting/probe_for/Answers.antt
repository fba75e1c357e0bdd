use Rattle.std.proofs.Common.{arith}
use Rattle.qz_circ.proofs.BoundsLemmas.{in_range}
use Rattle.qz_command_tests.proofs.meeting.probe_for.Goals as goal

pub new-requires : goal.new-requires
new-requires c = let range = in_range c.args.b c.q.ensures.lawful in (omega arith, omega arith)
