use Rattle.std.proofs.Common.{◌≡◌, ◌++◌, take}
use Rattle.std.specs.List.{flat_map}
use Rattle.qz_circ.specs.Order.{circuit_at}
use Rattle.qz_circ.specs.RuleText.{member_text}
use Rattle.qz_rulefile.proofs.rule_text.push_class.Given as goal

abbrev pub invariant-loop-r : goal.invariant-loop-r
invariant-loop-r l = l.out.items ≡ l.initial.out.items ++ flat_map (λ r. member_text l.b.grain (circuit_at l.b r)) (take l.r-index l.members)
