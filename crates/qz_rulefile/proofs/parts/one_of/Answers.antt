use Rattle.std.proofs.Common.{◌≡◌, ◌∙◌, sym, ap, subst, arith, ◌<◌, length, drop, [], List, get_or, ℕ}
use Rattle.qz_rulefile.specs.Reading.{common}
use Rattle.qz_circ.specs.Vectors.{lists_of}
use Rattle.qz_rulefile.proofs.PartSteps.{guessed, texts_len}
use Rattle.qz_rulefile.proofs.parts.one_of.Goals as goal

pub returns-then-common_len-text : goal.returns-then-common_len-text
returns-then-common_len-text c =
    let same : c.text_at-text.result.now ≡ get_or (lists_of c.args.texts.now) c.args.guess [] = c.text_at-text.ensures in
    let lt : c.args.guess < length (lists_of c.args.texts.now) = omega (arith, texts_len c.args.texts.now) in
    let here : common c.text_at-text.result.now c.args.bytes.now ≡ length c.text_at-text.result.now = sym c.common_len.ensures.common ∙ c.if-common_len-text.true in
    guessed (lists_of c.args.texts.now) c.args.bytes.now c.split_at.result.1.now c.args.guess c.requires lt
    (subst (λ (t : List ℕ). common t c.args.bytes.now ≡ length t) same here)
    (c.split_at.ensures.back ∙ ap (λ (t : List ℕ). drop (length t) c.args.bytes.now) same)
