use Rattle.std.proofs.Common.{◌≡◌, length, take}
use Rattle.std.specs.Prelude.{sum_by}
use Rattle.qz_repgen.proofs.counts.members.Given as goal

-- those of the lists so far
abbrev pub invariant-loop-i : goal.invariant-loop-i
invariant-loop-i l = l.all ≡ sum_by length (take l.i l.classes.lists)
