use Rattle.std.proofs.Common.{◌++◌, ap, ◌∙◌}
use Rattle.qz_ring.specs.Terms.{Terms}
use Rattle.qz_ring.proofs.MergeSteps.{sum_of_two-nonzero}
use Rattle.qz_ring.proofs.merge.push_both.Goals as goal

-- the term that is pushed is the sum
pub returns-then-coefficient-ne0-clause-items : goal.returns-then-coefficient-ne0-clause-items
returns-then-coefficient-ne0-clause-items c =
    let one = sum_of_two-nonzero (record { exponent = c.a.inside.exponent; coefficient = c.a.inside.coefficient }) (record { exponent = c.b.inside.exponent; coefficient = c.b.inside.coefficient }) c.args.a c.args.b c.a.view_is c.b.view_is c.requires.left_weight c.requires.right_weight c.if-coefficient-ne0.true in
    c.push_reserved.ensures.items ∙ ap (λ (ts : Terms). c.args.out.now.items ++ ts) one
