use Rattle.qz_rewrite.proofs.Sorting.{IsSorted}
use Rattle.qz_rewrite.proofs.sides.Sides.sort.Given as goal

abbrev pub invariant-loop-i : goal.invariant-loop-i
invariant-loop-i l = IsSorted l.positions l.c l.first l.initial.self.before.items l.initial.self.after.items l.initial.self.touched l.self.before.items l.self.after.items l.self.touched l.i l.next
