use Rattle.std.proofs.Common.{◌≡◌, ◌≤◌, ◌*◌, take}
use Rattle.qz_search.specs.Costs.{rule_cost}
use Rattle.qz_search.proofs.costs.rule_cost.Given as goal

abbrev pub invariant-loop-g : goal.invariant-loop-g
invariant-loop-g l = (l.n ≡ rule_cost l.weights (take l.g-index l.left)) × (l.n ≤ 255 * l.g-index)
