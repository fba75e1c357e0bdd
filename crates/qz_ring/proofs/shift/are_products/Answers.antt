use Rattle.std.proofs.Common.{arith}
use Rattle.qz_ring.proofs.Sums.{coefficient_within, reach_within, product_within}
use Rattle.qz_ring.proofs.shift.are_products.Goals as goal

-- the term is one of the other list, whose coefficients and powers are bounded
pub is_product-requires-clause-weight : goal.is_product-requires-clause-weight
is_product-requires-clause-weight c =
    let within = coefficient_within c.args.other.now c.loop-k.k c.index-other-k.result (omega (arith, c.loop-k-test.true, c.requires.alike)) c.index-other-k.is in
    omega (arith, within, c.requires.weight)

pub is_product-requires-clause-factor : goal.is_product-requires-clause-factor
is_product-requires-clause-factor c =
    let within = reach_within c.args.other.now c.loop-k.k c.index-other-k.result (omega (arith, c.loop-k-test.true, c.requires.alike)) c.index-other-k.is in
    omega (arith, within, c.requires.reach)

pub is_product-requires-clause-product : goal.is_product-requires-clause-product
is_product-requires-clause-product c =
    let within = product_within c.args.other.now c.args.by c.loop-k.k c.index-other-k.result (omega (arith, c.loop-k-test.true, c.requires.alike)) c.index-other-k.is in
    omega (arith, within, c.requires.products)
