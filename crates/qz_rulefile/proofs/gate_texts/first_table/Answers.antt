use Rattle.std.proofs.Common.{◌≡◌, ◌∙◌, sym, ap, map, ◌∷◌, [], take}
use Rattle.qz_circ.specs.Circuit.{gates_of}
use Rattle.qz_circ.specs.RuleText.{gate_text}
use Rattle.qz_rulefile.specs.Reading.{are_apart, first_texts}
use Rattle.qz_circ.specs.Vectors.{lists_of}
use Rattle.qz_rulefile.proofs.GateTables.{first_made_none, first_made_some, first_apart}
use Rattle.qz_rulefile.proofs.gate_texts.first_table.Goals as goal
use Rattle.qz_rulefile.proofs.gate_texts.first_table.Goals.{In_ok-texts, In_ok-texts-2}

none : (c : In_ok-texts) → lists_of c.in_ok-texts.texts.items ≡ first_texts c.args.b
none c = first_made_none c.args.b (lists_of c.in_ok-texts.texts.items) (sym c.n.ensures.value ∙ c.if-n-eq0.true) c.in_ok-texts.ensures

some : (c : In_ok-texts-2) → lists_of c.in_ok-texts-2.texts.items ≡ first_texts c.args.b
some c = first_made_some c.args.b (lists_of c.in_ok-texts-2.texts.items) (λ e. c.if-n-eq0.false (c.n.ensures.value ∙ e))
    (c.in_ok-texts-2.ensures ∙ ap (λ k. (45 ∷ 10 ∷ []) ∷ map (gate_text c.args.b.grain) (take k (gates_of c.args.b))) c.gates.ensures.value)

pub returns-then-n-eq0-clause-are : goal.returns-then-n-eq0-clause-are
returns-then-n-eq0-clause-are c = none c

pub returns-then-n-eq0-clause-apart : goal.returns-then-n-eq0-clause-apart
returns-then-n-eq0-clause-apart c = ap are_apart (none c) ∙ first_apart c.args.b c.n.ensures.lawful

pub returns-clause-are : goal.returns-clause-are
returns-clause-are c = some c

pub returns-clause-apart : goal.returns-clause-apart
returns-clause-apart c = ap are_apart (some c) ∙ first_apart c.args.b c.n.ensures.lawful
