use Rattle.qz_search.specs.Tables.{AreTwinsTaken}
use Rattle.qz_search.proofs.table.take_twins.Given as goal

abbrev pub invariant-loop : goal.invariant-loop
invariant-loop l = AreTwinsTaken l.left l.fn.rights.items l.rights.items l.fn.sides.items l.sides.items
