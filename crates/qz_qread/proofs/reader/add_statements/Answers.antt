use Rattle.std.proofs.Common.{◌≡◌, ◌-◌, ◌≤◌, List, [], length, drop, subst, arith}
use Rattle.std.proofs.lemmas.List.{length-drop, drop-drop, drop_all}
use Rattle.qz_circ.specs.declared.token.Token.{Token}
use Rattle.qz_qread.proofs.StatementSteps.{Stands, IsFirst, statement_goes, statement_fails, statements_end}
use Rattle.qz_qread.proofs.reader.add_statements.Goals as goal

pub loop-count-preserved : goal.loop-count-preserved
loop-count-preserved c =
    let rest : List Token = drop c.loop-count.count c.args.ts.now in
    let len : length rest ≡ length c.args.ts.now - c.loop-count.count = length-drop c.loop-count.count c.args.ts.now in
    let within : c.statement_len-len.result ≤ length rest = rw c.split_at.ensures.back at c.statement_len-len.ensures.within in
    let first : IsFirst c.args.bytes.now rest c.statement_len-len.result = (rw c.split_at.ensures.back at c.statement_len-len.ensures.first) c.args.bytes.now (omega (arith, len, c.loop-count-test.true)) in
    let is = rw (c.split_at-in-loop-count.ensures.front, c.split_at.ensures.back) at c.in-Ok.ensures in
    let next = statement_goes c.args.bytes.now c.args.p.now c.args.ts.now c.loop-count.p c.add_statement.new.p rest c.statement_len-len.result c.loop-count.invariant.1 first is in (
      omega (arith, len, within, c.loop-count.invariant.0),
      subst (Stands c.args.bytes.now c.args.p.now c.args.ts.now c.add_statement.new.p) (drop-drop c.statement_len-len.result c.loop-count.count c.args.ts.now) next,
    )

pub returns-in-Err : goal.returns-in-Err
returns-in-Err c = λ other.
    let rest : List Token = drop c.loop-count.count c.args.ts.now in
    let len : length rest ≡ length c.args.ts.now - c.loop-count.count = length-drop c.loop-count.count c.args.ts.now in
    let first : IsFirst c.args.bytes.now rest c.statement_len-len.result = (rw c.split_at.ensures.back at c.statement_len-len.ensures.first) c.args.bytes.now (omega (arith, len, c.loop-count-test.true)) in
    let is = rw (c.split_at-in-loop-count.ensures.front, c.split_at.ensures.back) at (c.in-Err.ensures other) in
    statement_fails c.args.bytes.now c.args.p.now c.args.ts.now c.loop-count.p rest c.statement_len-len.result c.in-Err.fault c.loop-count.invariant.1 first is

pub returns : goal.returns
returns c =
    let none : drop c.loop-count.count c.args.ts.now ≡ [] = drop_all c.loop-count.count c.args.ts.now (omega (arith, c.loop-count-test.false)) in
    statements_end c.args.bytes.now c.args.p.now c.args.ts.now c.loop-count.p (subst (Stands c.args.bytes.now c.args.p.now c.args.ts.now c.loop-count.p) none c.loop-count.invariant.1)
