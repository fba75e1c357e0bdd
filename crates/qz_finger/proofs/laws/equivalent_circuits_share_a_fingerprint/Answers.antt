use Rattle.qz_finger.proofs.Law.{one_fingerprint}
use Rattle.qz_finger.proofs.laws.equivalent_circuits_share_a_fingerprint.Goals as goal

pub returns : goal.returns
returns c = one_fingerprint
