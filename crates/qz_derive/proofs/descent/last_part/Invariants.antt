use Rattle.std.proofs.Common.{◌-◌, length}
use Rattle.qz_derive.proofs.PartLemmas.{BacksFrom}
use Rattle.qz_derive.proofs.descent.last_part.Given as goal

-- fewer last gates are representatives
abbrev pub invariant-loop-behind : goal.invariant-loop-behind
invariant-loop-behind l = BacksFrom l.b l.c (length l.c - l.behind)
