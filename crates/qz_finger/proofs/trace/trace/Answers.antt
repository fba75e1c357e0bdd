use Rattle.std.proofs.Common.{rules, ◌≡◌}
use Rattle.std.specs.Prelude.{slice_index}
use Rattle.qz_finger.proofs.trace.trace.Goals as goal

pub returns : goal.returns
returns c = c.diagonal.ensures (slice_index c.args.values.now) (λ k x less post. search (rules, post))
