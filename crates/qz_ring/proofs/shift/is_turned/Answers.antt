use Rattle.std.proofs.Common.{arith}
use Rattle.qz_ring.proofs.Shifts.{parts_weigh, parts_reach, part_products}
use Rattle.qz_ring.proofs.shift.is_turned.Goals as goal

-- the parts of the other list are within its bounds
pub are_products-requires-clause-weight : goal.are_products-requires-clause-weight
are_products-requires-clause-weight c = rw c.split_at.ensures.back (omega (arith, (parts_weigh c.args.other.now c.args.place).1, c.requires.weight))

pub are_products-requires-clause-reach : goal.are_products-requires-clause-reach
are_products-requires-clause-reach c = rw c.split_at.ensures.back (omega (arith, (parts_reach c.args.other.now c.args.place).1, c.requires.reach))

pub are_products-requires-clause-products : goal.are_products-requires-clause-products
are_products-requires-clause-products c = rw c.split_at.ensures.back (omega (arith, (part_products c.args.by c.args.other.now c.args.place).1, c.requires.products))

pub are_products-requires-then-are_products-clause-weight : goal.are_products-requires-then-are_products-clause-weight
are_products-requires-then-are_products-clause-weight c = rw c.split_at.ensures.front (omega (arith, (parts_weigh c.args.other.now c.args.place).0, c.requires.weight))

pub are_products-requires-then-are_products-clause-reach : goal.are_products-requires-then-are_products-clause-reach
are_products-requires-then-are_products-clause-reach c = rw c.split_at.ensures.front (omega (arith, (parts_reach c.args.other.now c.args.place).0, c.requires.reach))

pub are_products-requires-then-are_products-clause-products : goal.are_products-requires-then-are_products-clause-products
are_products-requires-then-are_products-clause-products c = rw c.split_at.ensures.front (omega (arith, (part_products c.args.by c.args.other.now c.args.place).0, c.requires.products))
