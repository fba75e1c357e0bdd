use Rattle.std.proofs.Common.{List, ◌++◌}
use Rattle.std.specs.List.{flat_map}
use Rattle.qz_circ.specs.Circuit.{below}
use Rattle.qz_circ.specs.ProgramCircuits.{ProgramCircuit}
use Rattle.qz_circ.specs.Vectors.{lists_of}
use Rattle.qz_search.specs.Classes.{children_with}
use Rattle.qz_search.specs.Tables.{IsTable}
use Rattle.qz_search.proofs.rows.Rows.add_class.Given as goal

abbrev pub invariant-loop-i : goal.invariant-loop-i
invariant-loop-i l =
    (before : ProgramCircuit → List ProgramCircuit) → IsTable l.fn.self.circuits l.fn.self.sides.items before → IsTable l.self.circuits l.self.sides.items (λ c. before c ++ flat_map (λ k. children_with (lists_of l.members) k c) (below l.i))
