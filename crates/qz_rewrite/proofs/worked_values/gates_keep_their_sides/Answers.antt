use Rattle.std.proofs.Common.{refl}
use Rattle.qz_circ.specs.Gathering.{marked, gathers, before_of, after_of, replaced_at}
use Rattle.qz_rewrite.proofs.worked_values.gates_keep_their_sides.Goals as goal

pub returns-clause-gather : goal.returns-clause-gather
unfolding marked gathers
returns-clause-gather _ = refl

pub returns-clause-replaced : goal.returns-clause-replaced
unfolding marked before_of after_of replaced_at
returns-clause-replaced _ = refl

pub returns-clause-apart : goal.returns-clause-apart
unfolding marked gathers
returns-clause-apart _ = refl
