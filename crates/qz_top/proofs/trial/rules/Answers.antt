use Rattle.std.proofs.Common.{subst, sym, ◌∙◌}
use Rattle.qz_circ.specs.Circuit.{Limits}
use Rattle.qz_circ.specs.Bounds.{IsLawful}
use Rattle.qz_circ.specs.Classes.{HasEquivalentMembers}
use Rattle.qz_top.proofs.TrialLemmas.{trial_lawful}
use Rattle.qz_top.proofs.trial.rules.Goals as goal

pub as_rules-requires-clause-lawful : goal.as_rules-requires-clause-lawful
as_rules-requires-clause-lawful c = subst IsLawful (sym (c.in_ok-classes.ensures.bounds ∙ c.bounds.ensures)) trial_lawful

pub as_rules-requires-clause-equivalent : goal.as_rules-requires-clause-equivalent
as_rules-requires-clause-equivalent c =
    subst (λ (b : Limits). HasEquivalentMembers b c.in_ok-classes.classes.lists) (sym c.in_ok-classes.ensures.bounds) c.in_ok-classes.ensures.equivalent
