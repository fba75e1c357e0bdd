use Rattle.std.proofs.Common.{◌∙◌, sym, length, take, arith}
use Rattle.qz_circ.specs.Lexemes.{lexemes}
use Rattle.qz_qread.proofs.EnclosedTokens.{enclosed_goes, enclosed_fails, enclosed_closes, enclosed_ends}
use Rattle.qz_qread.proofs.form.enclosed.Goals as goal

pub returns-then-is_of : goal.returns-then-is_of
returns-then-is_of c =
    let bytes = c.args.bytes.now in
    let ts = c.args.ts.now in
    rw c.misfit.ensures (
    sym c.loop-n.invariant.read
    ∙ enclosed_fails bytes (length bytes) ts c.loop-n.n _ c.loop-n.more_open (lexemes bytes (take c.loop-n.n ts)) c.loop-n-test.true (sym c.is_of.ensures ∙ c.if-is_of.true))

pub returns-then-closes : goal.returns-then-closes
returns-then-closes c =
    let bytes = c.args.bytes.now in
    let ts = c.args.ts.now in
    rw (c.split_at.ensures.front, c.split_at-then-closes.ensures.back) (
    sym c.loop-n.invariant.read
    ∙ enclosed_closes bytes (length bytes) ts c.loop-n.n _ c.loop-n.more_open (lexemes bytes (take c.loop-n.n ts)) c.loop-n-test.true (sym c.closes.ensures ∙ c.if-closes.true))

pub loop-n-preserved : goal.loop-n-preserved
loop-n-preserved c =
    let bytes = c.args.bytes.now in
    let ts = c.args.ts.now in
    record {
      read =
          enclosed_goes bytes (length bytes) ts c.loop-n.n _ c.loop-n.more_open c.open_behind-more_open.result c.loop-n-test.true (sym c.is_of.ensures ∙ c.if-is_of.false) (sym c.closes.ensures ∙ c.if-closes.false) c.open_behind-more_open.ensures.value
          ∙ c.loop-n.invariant.read;
      few = omega (arith, c.open_behind-more_open.ensures.few);
    }

pub returns : goal.returns
returns c =
    let bytes = c.args.bytes.now in
    let ts = c.args.ts.now in
    sym c.loop-n.invariant.read
    ∙ enclosed_ends bytes (length bytes) ts c.loop-n.n c.loop-n.more_open (lexemes bytes (take c.loop-n.n ts)) c.loop-n-test.false
