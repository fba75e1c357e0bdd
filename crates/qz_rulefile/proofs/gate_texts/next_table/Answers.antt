use Rattle.std.proofs.Common.{◌≡◌, ◌∙◌, ap}
use Rattle.qz_rulefile.specs.Reading.{are_apart, next_texts}
use Rattle.qz_circ.specs.Vectors.{lists_of}
use Rattle.qz_rulefile.proofs.GateTables.{next_made, next_apart}
use Rattle.qz_rulefile.proofs.gate_texts.next_table.Goals as goal
use Rattle.qz_rulefile.proofs.gate_texts.next_table.Goals.{In_ok-texts}

made : (c : In_ok-texts) → lists_of c.in_ok-texts.texts.items ≡ next_texts c.args.b
made c = next_made c.args.b c.gates.result (lists_of c.in_ok-texts.texts.items) c.gates.ensures.value c.in_ok-texts.ensures

pub returns-clause-are : goal.returns-clause-are
returns-clause-are c = made c

pub returns-clause-apart : goal.returns-clause-apart
returns-clause-apart c = ap are_apart (made c) ∙ next_apart c.args.b c.gates.ensures.lawful
