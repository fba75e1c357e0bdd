use Rattle.qz_match.proofs.Flagged.{no_flags}
use Rattle.qz_match.proofs.gather.unmarked.Goals as goal

pub returns : goal.returns
returns c = no_flags 64
