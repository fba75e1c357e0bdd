use Rattle.std.proofs.Common.{rules, ◌≡◌}
use Rattle.std.specs.Prelude.{slice_index}
use Rattle.qz_finger.specs.Actions.{value_after}
use Rattle.qz_finger.proofs.trace.trace_after.Goals as goal

pub returns : goal.returns
returns c = c.diagonal.ensures (value_after c.args.step (slice_index c.args.values.now)) (λ k x less post. search (rules, post))
