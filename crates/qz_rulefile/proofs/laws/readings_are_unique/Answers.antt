use Rattle.qz_rulefile.proofs.Unique.{one_reading}
use Rattle.qz_rulefile.proofs.laws.readings_are_unique.Goals as goal

pub returns : goal.returns
returns c = one_reading
