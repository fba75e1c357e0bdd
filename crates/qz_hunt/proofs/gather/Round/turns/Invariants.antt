use Rattle.std.proofs.Common.{◌≡◌}
use Rattle.qz_seats.specs.Parts.{IsOf}
use Rattle.qz_hunt.specs.Gathered.{gathered}
use Rattle.qz_hunt.proofs.gather.Round.turns.Given as goal

-- the queue has what the circuits become that were drawn
abbrev pub invariant-loop : goal.invariant-loop
invariant-loop g l =
    ((goal.iterator-loop g).can_next l.iterator' × (goal.iterator-loop g).is_finite l.iterator')
    × IsOf l.pass l.self.seats × (l.pass.view ≡ record l.initial.pass.view { drawn = l.pass.view.drawn; ended = l.pass.view.ended }) × (l.queue ≡ gathered l.self l.pass.view.drawn)
