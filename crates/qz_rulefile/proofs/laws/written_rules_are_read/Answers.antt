use Rattle.std.proofs.Common.{refl}
use Rattle.qz_circ.specs.RuleText.{rule_text}
use Rattle.qz_rulefile.proofs.laws.written_rules_are_read.Goals as goal

pub returns-clause-ranks : goal.returns-clause-ranks
unfolding rule_text
returns-clause-ranks c = λ b classes lawful fit sound. (lawful, record { fit = fit; text_is = refl }, sound)
