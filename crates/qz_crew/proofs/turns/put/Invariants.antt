use Rattle.std.proofs.Common.{◌≡◌}
use Rattle.qz_crew.specs.Works.{IsTried}
use Rattle.qz_crew.proofs.turns.put.Given as goal

-- nothing was put yet
abbrev pub invariant-loop : goal.invariant-loop
invariant-loop g l =
    ((goal.iterator-loop g).can_next l.iterator' × (goal.iterator-loop g).is_finite l.iterator')
    × IsTried l.store l.initial.pass l.pass × (l.pass.view.receipts ≡ l.initial.pass.view.receipts)
