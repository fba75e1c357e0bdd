use Rattle.qz_match.specs.Rows.{IsAsked, words_of}
use Rattle.qz_match.proofs.rows.next_of.Given as goal

-- the rows that are left no more lead nowhere
abbrev pub invariant-loop-cursor : goal.invariant-loop-cursor
invariant-loop-cursor l = IsAsked l.c l.neighbours.links (words_of l.rows) l.fn.cursor l.cursor

abbrev pub decreases-loop-cursor : goal.decreases-loop-cursor
decreases-loop-cursor l = l.cursor.left
