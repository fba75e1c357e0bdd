use Rattle.qz_circ.specs.Circuit.{below}
use Rattle.qz_circ.specs.Vectors.{lists_of}
use Rattle.qz_search.specs.Circuits.{IsLonger}
use Rattle.qz_search.specs.Classes.{children_of_some}
use Rattle.qz_search.specs.Tables.{AreRights}
use Rattle.qz_search.proofs.rows.rights_of.Given as goal

abbrev pub invariant-loop-j : goal.invariant-loop-j
invariant-loop-j l =
    IsLonger l.fn.circuits l.circuits × AreRights l.circuits l.left l.rights.items (children_of_some (lists_of l.members) l.i (below l.j))
