use Rattle.std.proofs.Common.{◌≡◌, ◌∙◌, sym, ap, subst, arith, ◌<◌, length, drop, [], List, get_or, ℕ, Some}
use Rattle.qz_rulefile.specs.Reading.{common}
use Rattle.qz_circ.specs.Vectors.{lists_of}
use Rattle.qz_rulefile.proofs.PartSteps.{from_start, not_here, found_here, none_left, texts_len}
use Rattle.qz_rulefile.proofs.parts.first_text.Goals as goal

pub returns-then-common_len-text : goal.returns-then-common_len-text
returns-then-common_len-text c =
    let same : c.text_at-text.result.now ≡ get_or (lists_of c.args.texts.now) c.loop-k.k [] = c.text_at-text.ensures in
    let lt : c.loop-k.k < length (lists_of c.args.texts.now) = omega (arith, texts_len c.args.texts.now) in
    let here : common c.text_at-text.result.now c.args.bytes.now ≡ length c.text_at-text.result.now = sym c.common_len.ensures.common ∙ c.if-common_len-text.true in
    let whole = subst (λ (t : List ℕ). common t c.args.bytes.now ≡ length t) same here in
    let rest : c.split_at.result.1.now ≡ drop (length (get_or (lists_of c.args.texts.now) c.loop-k.k [])) c.args.bytes.now = c.split_at.ensures.back ∙ ap (λ (t : List ℕ). drop (length t) c.args.bytes.now) same in
    let found = found_here (lists_of c.args.texts.now) c.args.bytes.now c.loop-k.k lt whole in
    ap (λ (r : List ℕ). Some (c.loop-k.k, r)) rest ∙ sym found ∙ c.loop-k.invariant

pub loop-k-init : goal.loop-k-init
loop-k-init c = from_start (lists_of c.args.texts.now) c.args.bytes.now

pub loop-k-preserved : goal.loop-k-preserved
loop-k-preserved c =
    let same : c.text_at-text.result.now ≡ get_or (lists_of c.args.texts.now) c.loop-k.k [] = c.text_at-text.ensures in
    let lt : c.loop-k.k < length (lists_of c.args.texts.now) = omega (arith, texts_len c.args.texts.now) in
    sym (not_here (lists_of c.args.texts.now) c.args.bytes.now c.loop-k.k lt (λ e. c.if-common_len-text.false (c.common_len.ensures.common ∙ subst (λ (t : List ℕ). common t c.args.bytes.now ≡ length t) (sym same) e))) ∙ c.loop-k.invariant

pub returns : goal.returns
returns c = sym (none_left (lists_of c.args.texts.now) c.args.bytes.now c.loop-k.k (omega (arith, texts_len c.args.texts.now))) ∙ c.loop-k.invariant
