use Rattle.std.proofs.Common.{codes, lit≤, lit<, refl}
use Rattle.qz_circ.specs.ValidPrograms.{reserved_words}
use Rattle.qz_circ.proofs.ProgramNames.{name_by_tests}
use Rattle.qz_circ.proofs.worked_programs.names_are_told.Goals as goal

pub returns-clause-digit : goal.returns-clause-digit
unfolding reserved_words
returns-clause-digit _ = name_by_tests (codes "q_1") (lit≤ tt) (refl, (refl, (refl, tt))) refl

pub returns-clause-gate : goal.returns-clause-gate
unfolding reserved_words
returns-clause-gate _ = name_by_tests (codes "cx") (lit≤ tt) (refl, (refl, tt)) refl

pub returns-clause-word : goal.returns-clause-word
unfolding reserved_words
returns-clause-word _ = λ name. name.free (9, lit< tt, refl)

pub returns-clause-pi : goal.returns-clause-pi
unfolding reserved_words
returns-clause-pi _ = λ name. name.free (0, lit< tt, refl)

pub returns-clause-capital : goal.returns-clause-capital
returns-clause-capital _ = λ name. let first = name.spelled.0 in cc

pub returns-clause-nothing : goal.returns-clause-nothing
returns-clause-nothing _ = λ name. name.spelled
