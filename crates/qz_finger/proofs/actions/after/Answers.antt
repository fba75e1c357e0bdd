use Rattle.std.proofs.Common.{rules, ◌≡◌}
use Rattle.std.specs.Prelude.{slice_index}
use Rattle.qz_finger.specs.Actions.{value_after}
use Rattle.qz_finger.proofs.actions.after.Goals as goal

pub returns-clause-after : goal.returns-clause-after
returns-clause-after c = λ k less.
    let made : slice_index c.filled.result k ≡ value_after c.args.step (slice_index c.args.values.now) k = search (rules, c.filled.ensures.numbers k less) in
    made
