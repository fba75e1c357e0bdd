use Rattle.std.proofs.Common.{lit<, arith}
use Rattle.qz_circ.proofs.worked_programs.statements_are_told.Goals as goal

pub returns-clause-single : goal.returns-clause-single
returns-clause-single _ =
    record { source = record { register = lit< tt; place = lit< tt }; target = record { register = lit< tt; place = lit< tt }; alike = tt }

pub returns-clause-past : goal.returns-clause-past
returns-clause-past _ = λ s. let below = s.source.place in omega arith

pub returns-clause-whole : goal.returns-clause-whole
returns-clause-whole _ = λ s. let same = s.alike in omega arith

pub returns-clause-mixed : goal.returns-clause-mixed
returns-clause-mixed _ = λ s. s.alike

pub returns-clause-barrier : goal.returns-clause-barrier
returns-clause-barrier _ = λ s. let some = s.0 in omega arith
