use Rattle.std.proofs.Common.{◌≡◌, ◌++◌, map, take}
use Rattle.std.specs.List.{flat_map}
use Rattle.qz_circ.specs.Order.{circuit_at}
use Rattle.qz_circ.specs.RuleText.{class_text}
use Rattle.qz_rulefile.proofs.rule_text.text_of.Given as goal

abbrev pub invariant-loop-i : goal.invariant-loop-i
invariant-loop-i l = l.out.items ≡ l.initial.out.items ++ flat_map (λ ranks. class_text l.k.bounds.grain (map (circuit_at l.k.bounds) ranks)) (take l.i l.k.lists)
