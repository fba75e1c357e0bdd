use Rattle.std.proofs.Common.{◌≡◌, ◌+◌, ◌%◌, ◌^◌, ◌≤◌, ap, arith}
use Rattle.qz_ring.specs.Exponent.{Exponent, plus, reach_of}
use Rattle.qz_ring.proofs.Numbers.{IsCodeSum, power_sum}
use Rattle.qz_ring.proofs.Order.{same_from_parts}
use Rattle.qz_ring.proofs.exponent.product_of.Goals as goal

-- no sum of powers overflows, and each is the product's
sums : (a b x y : Exponent) → x ≡ a → y ≡ b → reach_of a ≤ 2 ^ 40 → reach_of (plus a b) ≤ 2 ^ 40 → IsCodeSum x.x0 y.x0 (plus a b).x0 × IsCodeSum x.x1 y.x1 (plus a b).x1 × IsCodeSum x.x2 y.x2 (plus a b).x2
sums a b x y left right factor product = (
  power_sum _ _ a.x0 b.x0 (ap (λ (e : Exponent). e.x0) left) (ap (λ (e : Exponent). e.x0) right) (omega (arith, factor)) (omega (arith, product)),
  power_sum _ _ a.x1 b.x1 (ap (λ (e : Exponent). e.x1) left) (ap (λ (e : Exponent). e.x1) right) (omega (arith, factor)) (omega (arith, product)),
  power_sum _ _ a.x2 b.x2 (ap (λ (e : Exponent). e.x2) left) (ap (λ (e : Exponent). e.x2) right) (omega (arith, factor)) (omega (arith, product)),
)

pub overflow_add-result-2 : goal.overflow_add-result-2
overflow_add-result-2 c = (sums c.args.a c.args.b _ _ c.a.view_is c.b.view_is c.requires.factor c.requires.product).0.0

pub overflow_add-result-3 : goal.overflow_add-result-3
overflow_add-result-3 c = (sums c.args.a c.args.b _ _ c.a.view_is c.b.view_is c.requires.factor c.requires.product).1.0

pub overflow_add-result-4 : goal.overflow_add-result-4
overflow_add-result-4 c = (sums c.args.a c.args.b _ _ c.a.view_is c.b.view_is c.requires.factor c.requires.product).2.0

-- each part is the sum of the parts
pub returns : goal.returns
returns c =
    let turn_a = ap (λ (e : Exponent). e.turn) c.a.view_is in
    let turn_b = ap (λ (e : Exponent). e.turn) c.b.view_is in
    let turns : (c.a.inside.turn + c.b.inside.turn) % 512 ≡ (c.args.a.turn + c.args.b.turn) % 512 = omega arith in
    let powers = sums c.args.a c.args.b _ _ c.a.view_is c.b.view_is c.requires.factor c.requires.product in
    same_from_parts _ (plus c.args.a c.args.b) turns powers.0.1 powers.1.1 powers.2.1
