use Rattle.qz_store.proofs.Traces.{home_given}
use Rattle.qz_store.proofs.laws.a_rank_has_the_home_that_is_given.Goals as goal

pub returns : goal.returns
returns c = home_given
