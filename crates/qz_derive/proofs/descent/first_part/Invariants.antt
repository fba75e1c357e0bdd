use Rattle.std.proofs.Common.{◌+◌}
use Rattle.qz_derive.proofs.PartLemmas.{FrontsTo}
use Rattle.qz_derive.proofs.descent.first_part.Given as goal

-- as many first gates, and fewer, are representatives
abbrev pub invariant-loop-before : goal.invariant-loop-before
invariant-loop-before l = FrontsTo l.b l.c (l.before + 1)
