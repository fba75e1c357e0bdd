use Rattle.std.specs.Prelude.{List, vec_len}
use Rattle.qz_circ.specs.Circuit.{Circuit}
use Rattle.qz_circ.specs.ProgramCircuits.{ProgramCircuit}
use Rattle.qz_search.specs.Tables.{IsTable}
use Rattle.qz_search.proofs.TableLaws.{IsJoining}
use Rattle.qz_search.proofs.table.table_of.Given as goal

abbrev pub invariant-loop-side : goal.invariant-loop-side
invariant-loop-side l =
    (circuits : List Circuit) (children : ProgramCircuit → List ProgramCircuit) → IsTable circuits l.fn.sides.items children → IsJoining circuits l.table.items l.rest.items children

abbrev pub decreases-loop-side : goal.decreases-loop-side
decreases-loop-side l = vec_len l.rest
