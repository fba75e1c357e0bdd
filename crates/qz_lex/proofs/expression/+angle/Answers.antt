use Rattle.std.proofs.Common.{◌≡◌, ◌+◌, ◌-◌, sym, ◌∙◌, suc, length, arith}
use Rattle.std.specs.Prelude.{Ok}
use Rattle.qz_circ.specs.Angle.{unary, chain}
use Rattle.qz_lex.specs.Values.{meaning_of}
use Rattle.qz_lex.specs.Levels.{joins_at, operand_at}
use Rattle.qz_lex.proofs.ChainLemmas.{chain_goes, chain_fails, chain_stops, chain_ends, unary_deeper}
use Rattle.qz_lex.proofs.expression.+angle.Goals as goal
use Rattle.qz_lex.proofs.expression.+angle.Goals.{with_operators-else-loop-test, with_operators-then-loop-test+in_default}

pub unary-returns-then-depth-gt0 : goal.unary-returns-then-depth-gt0
unary-returns-then-depth-gt0 t c =
    rw (unary_deeper c.args.depth c.args.end c.in-Some.first.now c.args.tokens.now c.in-Some.rest.now c.if-depth-gt0.true c.in-Some.ensures.cases.0) c.nested.ensures

pub with_operators-returns-in-Err : goal.with_operators-returns-in-Err
with_operators-returns-in-Err t c =
    let n = length c.in_ok-meaning.rest.now - c.loop.counter in
    let k = length c.in_ok-meaning.rest.now - (c.loop.counter + 1) in
    let more : n ≡ suc k = omega arith in
    let found = c.in-Some.ensures in
    sym c.loop.invariant
    ∙ chain_fails (joins_at c.args.level) (operand_at c.args.level (unary c.args.depth c.args.end)) n k (meaning_of c.loop.meaning) c.in-Some.operator c.loop.rest.now c.in-Some.after.now c.in-Err.fault more found.0 found.1 c.in-Err.ensures

pub with_operators-loop-preserved : goal.with_operators-loop-preserved
with_operators-loop-preserved t c =
    let n = length c.in_ok-meaning.rest.now - c.loop.counter in
    let k = length c.in_ok-meaning.rest.now - (c.loop.counter + 1) in
    let more : n ≡ suc k = omega arith in
    let found = c.in-Some.ensures in
    rw c.combined-meaning.ensures (
    chain_goes (joins_at c.args.level) (operand_at c.args.level (unary c.args.depth c.args.end)) n k (meaning_of c.loop.meaning) (meaning_of c.in-Ok.right) c.in-Some.operator c.loop.rest.now c.in-Some.after.now c.in-Ok.behind.now more found.0 found.1 c.in-Ok.ensures
    ∙ c.loop.invariant)

pub with_operators-returns : goal.with_operators-returns
with_operators-returns t c =
    let n = length c.in_ok-meaning.rest.now - c.loop.counter in
    let operand = operand_at c.args.level (unary c.args.depth c.args.end) in
    let ends : chain (joins_at c.args.level) operand n (meaning_of c.loop.meaning) c.loop.rest.now ≡ Ok (meaning_of c.loop.meaning, c.loop.rest.now) =
    elim c.loop-test.branch [
      | with_operators-else-loop-test w ↦ chain_ends (joins_at c.args.level) operand n (meaning_of c.loop.meaning) c.loop.rest.now (omega arith)
      | with_operators-then-loop-test+in_default w ↦ chain_stops c.args.level operand n (meaning_of c.loop.meaning) c.loop.rest.now w.in_default.ensures
    ] in
    sym c.loop.invariant ∙ ends
