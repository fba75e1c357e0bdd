use Rattle.qz_top.proofs.TrialLemmas.{trial_lawful}
use Rattle.qz_top.proofs.trial.bounds.Goals as goal

pub unwrap-requires : goal.unwrap-requires
unwrap-requires c = c.new.ensures.lawful.1 trial_lawful
