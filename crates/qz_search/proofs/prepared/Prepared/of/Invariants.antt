use Rattle.std.proofs.Common.{take}
use Rattle.qz_circ.specs.Replacement.{children}
use Rattle.qz_search.specs.Tables.{IsTable}
use Rattle.qz_search.proofs.prepared.Prepared.of.Given as goal

abbrev pub invariant-loop-c : goal.invariant-loop-c
invariant-loop-c l = IsTable l.rows.circuits l.rows.sides.items (children (take l.c l.rules.classes))
