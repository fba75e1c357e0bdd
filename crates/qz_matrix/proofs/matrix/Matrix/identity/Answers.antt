use Rattle.qz_matrix.proofs.MatrixLemmas.{stands_start}
use Rattle.qz_matrix.proofs.matrix.Matrix.identity.Goals as goal

pub returns-clause-stands : goal.returns-clause-stands
returns-clause-stands c = stands_start c.args.q c.in_ok-entries.entries.items c.in_ok-entries.ensures
