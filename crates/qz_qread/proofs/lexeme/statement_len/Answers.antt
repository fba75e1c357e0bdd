use Rattle.std.proofs.Common.{◌∙◌, sym}
use Rattle.qz_qread.proofs.Statements.{first_len_ends, first_len_goes, first_len_all, first_statement}
use Rattle.qz_qread.proofs.lexeme.statement_len.Goals as goal

pub returns-then-is_of-clause-first : goal.returns-then-is_of-clause-first
returns-then-is_of-clause-first c bytes =
    first_statement bytes c.args.ts.now _ (first_len_ends c.args.ts.now c.loop-n.n _ c.loop-n-test.true (sym c.is_of.ensures ∙ c.if-is_of.true) c.loop-n.invariant)

pub loop-n-preserved : goal.loop-n-preserved
loop-n-preserved c =
    first_len_goes c.args.ts.now c.loop-n.n _ c.loop-n-test.true (sym c.is_of.ensures ∙ c.if-is_of.false) c.loop-n.invariant

pub returns-clause-first : goal.returns-clause-first
returns-clause-first c bytes =
    first_statement bytes c.args.ts.now _ (first_len_all c.args.ts.now c.loop-n.n c.loop-n-test.false c.loop-n.auto.n-end c.loop-n.invariant)
