use Rattle.std.proofs.Common.{◌≡◌, ◌∷◌, ◌++◌, map, take}
use Rattle.qz_circ.specs.Circuit.{gates_of}
use Rattle.qz_circ.specs.RuleText.{gate_text}
use Rattle.qz_circ.specs.Vectors.{lists_of}
use Rattle.qz_rulefile.proofs.gate_texts.table.Given as goal

abbrev pub invariant-loop-k : goal.invariant-loop-k
invariant-loop-k l = lists_of l.texts.items ≡ l.fn.text ∷ map (λ g. l.letters ++ gate_text l.b.grain g) (take l.k (gates_of l.b))
