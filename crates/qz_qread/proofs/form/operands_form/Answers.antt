use Rattle.std.proofs.Common.{◌≡◌, ◌+◌, ◌-◌, suc, [], ◌∷◌, ◌∙◌, sym, refl, length, arith}
use Rattle.std.proofs.lemmas.List.{map-append}
use Rattle.qz_circ.specs.Lexemes.{lexemes}
use Rattle.qz_qread.specs.Views as views
use Rattle.qz_qread.proofs.MoreOperands.{operands_go, operands_fail, operands_end}
use Rattle.qz_qread.proofs.form.operands_form.Goals as goal

pub returns-in-Err : goal.returns-in-Err
returns-in-Err c other =
    let bytes = c.args.bytes.now in
    let n = c.args.more - c.loop.counter in
    let k = c.args.more - (c.loop.counter + 1) in
    let more : n ≡ suc k = omega arith in
    sym c.loop.invariant
    ∙ operands_fail (length bytes) n k (lexemes bytes c.loop.rest.now) (views.operands bytes c.loop.operands.items) c.in-Err.fault more c.in-Err.ensures

pub loop-preserved : goal.loop-preserved
loop-preserved c =
    let bytes = c.args.bytes.now in
    let n = c.args.more - c.loop.counter in
    let k = c.args.more - (c.loop.counter + 1) in
    let more : n ≡ suc k = omega arith in
    rw (c.in_ok-push-in-Ok.ensures.ok, map-append (views.operand bytes) c.loop.operands.items (c.in-Ok.operand ∷ [])) (
    operands_go (length bytes) n k (lexemes bytes c.loop.rest.now) (views.operands bytes c.loop.operands.items) (views.operand bytes c.in-Ok.operand) (lexemes bytes c.in-Ok.behind.now) more c.in-Ok.ensures
    ∙ c.loop.invariant)

pub returns-in-Ok-token : goal.returns-in-Ok-token
returns-in-Ok-token c =
    let bytes = c.args.bytes.now in
    let n = c.args.more - c.loop.counter in
    sym c.loop.invariant
    ∙ operands_end (length bytes) n (lexemes bytes c.loop.rest.now) (views.operands bytes c.loop.operands.items) (omega arith)
    ∙ rw c.in-Ok-token.ensures refl

pub returns-in-Err-token : goal.returns-in-Err-token
returns-in-Err-token c other =
    let bytes = c.args.bytes.now in
    let n = c.args.more - c.loop.counter in
    sym c.loop.invariant
    ∙ operands_end (length bytes) n (lexemes bytes c.loop.rest.now) (views.operands bytes c.loop.operands.items) (omega arith)
    ∙ rw c.in-Err-token.ensures refl
