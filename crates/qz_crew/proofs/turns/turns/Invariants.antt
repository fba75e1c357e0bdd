use Rattle.std.proofs.Common.{◌≡◌}
use Rattle.qz_crew.specs.Works.{prints_of, HasPutAll, IsKept}
use Rattle.qz_crew.proofs.turns.turns.Given as goal

-- all that was claimed was put
abbrev pub invariant-loop : goal.invariant-loop
invariant-loop g l =
    ((goal.iterator-loop g).can_next l.iterator' × (goal.iterator-loop g).is_finite l.iterator')
    × IsKept l.store l.initial.pass l.pass × HasPutAll l.pass.view × (l.prints ≡ prints_of l.store)
