use Rattle.std.proofs.Common.{sym}
use Rattle.qz_lex.proofs.ChainLemmas.{end_of-last, end_of-none}
use Rattle.qz_lex.proofs.expression.end_of.Goals as goal

pub returns-in-Some : goal.returns-in-Some
returns-in-Some c = rw (c.from.ensures, c.in-Some.ensures.cases.0) (sym (end_of-last c.in-Some.field-0-1.now c.in-Some.last.now))

pub returns-in-None : goal.returns-in-None
returns-in-None c = sym (end_of-none c.args.t.now c.in-None.ensures.cases)
