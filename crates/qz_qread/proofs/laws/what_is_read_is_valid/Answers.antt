use Rattle.qz_qread.proofs.ValidReadings.{what_is_read_is_valid}
use Rattle.qz_qread.proofs.laws.what_is_read_is_valid.Goals as goal

pub returns : goal.returns
returns _ = what_is_read_is_valid
