use Rattle.std.proofs.Common.{◌≡◌, None}
use Rattle.qz_seats.specs.Parts.{IsOf}
use Rattle.qz_seats_tests.proofs.threads.work.Given as goal

abbrev pub invariant-loop : goal.invariant-loop
invariant-loop l = IsOf l.pass l.seats × (l.pass.view.held ≡ None) × (l.pass.view.shares ≡ l.initial.pass.view.shares)
