use Rattle.std.proofs.Common.{arith}
use Rattle.qz_ring.proofs.Sums.{reach_times_le}
use Rattle.qz_equiv.proofs.PhaseLemmas.{answer_yes}
use Rattle.qz_equiv.proofs.RootLemmas.{zero_multiple, multiple_without_roots}
use Rattle.qz_equiv.proofs.phase.same_entry.Goals as goal

pub returns-then-are_zero : goal.returns-then-are_zero
returns-then-are_zero c =
    answer_yes (zero_multiple c.args.roots c.args.by c.args.x.now c.args.y.now (c.are_zero.ensures.first c.if-are_zero.true) (c.are_zero.ensures.second c.if-are_zero.true))

pub is_product-requires : goal.is_product-requires
is_product-requires c = omega (arith, reach_times_le c.args.y.now c.args.by, c.requires.powers, c.requires.reach)

pub is_product-requires-2 : goal.is_product-requires-2
is_product-requires-2 c = omega (arith, reach_times_le c.in_ok-product.product c.args.by, c.in_ok-product.ensures.reach, c.requires.powers, c.requires.reach)

pub returns-then-roots-eq0 : goal.returns-then-roots-eq0
returns-then-roots-eq0 c = multiple_without_roots c.args.roots c.args.by c.args.x.now c.args.y.now c.is_product.result c.if-roots-eq0.true c.is_product.ensures
