use Rattle.qz_derive.proofs.WholeChains.{chain_same}
use Rattle.qz_derive.proofs.laws.chains_are_unique.Goals as goal

pub returns : goal.returns
returns _ b lawful = chain_same b lawful
