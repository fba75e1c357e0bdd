use Rattle.qz_ring.proofs.Counts.{terms_from_counts}
use Rattle.qz_ring.proofs.laws.counts_determine_terms.Goals as goal

pub returns : goal.returns
returns c = terms_from_counts
