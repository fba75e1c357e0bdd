use Rattle.std.proofs.Common.{arith}
use Rattle.qz_check.proofs.OneTurn.{decided, decided_swapped}
use Rattle.qz_check.proofs.check.Goals as goal

pub returns-then-first-second : goal.returns-then-first-second
returns-then-first-second c = record { exact = decided_swapped c.args.q _ c.args.a.now c.args.c.now c.in_ok-same.same c.requires.first c.requires.second (omega (arith, c.halves_of-first.ensures, c.halves_of-second.ensures, c.if-first-second.true)) c.in_ok-same.ensures }

pub returns : goal.returns
returns c = record { exact = decided c.args.q _ c.args.a.now c.args.c.now c.in_ok-same-2.same c.requires.first c.requires.second (omega (arith, c.halves_of-first.ensures, c.halves_of-second.ensures, c.if-first-second.false)) c.in_ok-same-2.ensures }
