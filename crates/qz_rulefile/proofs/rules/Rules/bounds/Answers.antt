use Rattle.std.proofs.Common.{subst}
use Rattle.qz_circ.specs.RuleFiles.{RuleClasses, AreSound}
use Rattle.qz_rulefile.proofs.rules.Rules.bounds.Goals as goal

pub returns-clause-sound : goal.returns-clause-sound
returns-clause-sound c = subst (λ (v : RuleClasses). AreSound v.bounds.q v.classes) c.self.view_is c.self.invariant
