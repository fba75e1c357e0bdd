use Rattle.qz_core.proofs.Interleavings.{always, finished_is}
use Rattle.qz_core.proofs.laws.a_finished_round_has_put_each_rank_once.Goals as goal

pub returns : goal.returns
returns c = always _ finished_is
