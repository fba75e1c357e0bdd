use Rattle.std.proofs.Common.{◌≡◌, ◌++◌, ◌∷◌, take}
use Rattle.std.specs.List.{flat_map}
use Rattle.qz_circ.specs.RuleText.{gate_text}
use Rattle.qz_rulefile.proofs.rule_text.push_circuit.Given as goal

abbrev pub invariant-loop-g : goal.invariant-loop-g
invariant-loop-g l = l.out.items ≡ l.initial.out.items ++ flat_map (λ h. 59 ∷ gate_text l.grain h) (take l.g-index l.rest)
