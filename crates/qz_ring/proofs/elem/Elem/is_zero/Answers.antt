use Rattle.std.proofs.Common.{length, refl, sym, ◌∙◌}
use Rattle.qz_ring.proofs.Counts.{count-empty, empty_from_counts, empty_tells}
use Rattle.qz_ring.proofs.elem.Elem.is_zero.Goals as goal

-- a sum is empty exactly where it has no counts
pub returns-clause-counts : goal.returns-clause-counts
returns-clause-counts c =
    let empty = empty_tells c.self.inside.terms.items (length c.self.inside.terms.items) c.is_empty.result c.is_empty.ensures refl in
    (λ yes e in_circle. count-empty c.args.self.now e (sym c.self.view_is ∙ empty.0 yes), λ none. empty.1 (c.self.view_is ∙ empty_from_counts c.args.self.now (rw c.self.view_is at c.self.invariant.0) none))
