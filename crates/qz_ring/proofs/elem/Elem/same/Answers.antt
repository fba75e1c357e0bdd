use Rattle.std.proofs.Common.{◌≡◌, ap, rules}
use Rattle.std.specs.Prelude.{IsTrue, ◌↔◌}
use Rattle.qz_ring.specs.Terms.{Terms, count}
use Rattle.qz_ring.proofs.Counts.{terms_from_counts}
use Rattle.qz_ring.proofs.elem.Elem.same.Goals as goal

-- two sums are the same exactly where their counts are
pub returns-clause-counts : goal.returns-clause-counts
returns-clause-counts c =
    let equal : IsTrue c.same_terms.result ↔ (c.args.self.now ≡ c.args.other.now) = search rules in
    (λ yes e in_circle. ap (λ (ts : Terms). count ts e) (equal.0 yes), λ counts. equal.1 (terms_from_counts c.args.self.now c.args.other.now (rw c.self.view_is at c.self.invariant.0) (rw c.other.view_is at c.other.invariant.0) counts))
