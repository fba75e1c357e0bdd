use Rattle.std.proofs.Common.{ap}
use Rattle.qz_circ.specs.declared.fault.QasmFault.TheVariants as fault
use Rattle.qz_circ.specs.FirstFault.{fault_as}
use Rattle.qz_circ.specs.Grammar.{angle_number}
use Rattle.qz_qread.proofs.Steps.{tokens_of_lexemes}
use Rattle.qz_qread.proofs.gate.angle_number.Goals as goal

pub returns-in-Ok-clause-value : goal.returns-in-Ok-clause-value
unfolding angle_number
returns-in-Ok-clause-value c bytes = rw (tokens_of_lexemes bytes c.args.tokens.now, ← c.takes_angle.ensures, c.if-not-takes_angle.false) (ap (fault_as fault.Angle) c.in-Ok.ensures.value)

pub returns-in-Err-clause-value : goal.returns-in-Err-clause-value
unfolding angle_number
returns-in-Err-clause-value c bytes = rw (tokens_of_lexemes bytes c.args.tokens.now, ← c.takes_angle.ensures, c.if-not-takes_angle.false) (ap (fault_as fault.Angle) c.in-Err.ensures.value)
