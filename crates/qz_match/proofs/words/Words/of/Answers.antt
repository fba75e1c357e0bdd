use Rattle.std.proofs.Common.{◌≡◌, ℕ, suc, ◌<◌, ◌≤◌, ◌+◌, refl, length, take, sym, ◌∙◌, subst, arith, rules}
use Rattle.std.proofs.lemmas.List.{length-set}
use Rattle.qz_match.specs.Words.{word_at, IsFirstWord, IsWordOf, AreWordsOf}
use Rattle.qz_match.proofs.WordSteps.{words_more, words_all}
use Rattle.qz_match.proofs.words.Words.of.Goals as goal

pub loop-k-preserved : goal.loop-k-preserved
loop-k-preserved c =
    let six = c.loop-k.invariant.0 in
    let less = c.loop-k-test.true in
    let few = c.steps-steps.ensures.few in
    let more = words_more c.args.left.now c.steps-steps.result.now c.loop-k.list six c.loop-k.k c.word_of.result (omega arith) c.word_of.ensures (c.loop-k.invariant.1, c.loop-k.invariant.2) in
    (length-set c.loop-k.list (c.loop-k.k + 1) c.word_of.result ∙ six, more.0, more.1)

pub returns : goal.returns
returns c =
    let six = c.loop-k.invariant.0 in
    let few = c.steps-steps.ensures.few in
    let done : length c.steps-steps.result.now ≡ c.loop-k.k = search rules in
    subst (λ steps. AreWordsOf c.args.left.now steps (take (length c.steps-steps.result.now + 1) c.loop-k.list)) c.steps-steps.ensures.same
    (words_all c.args.left.now c.steps-steps.result.now c.loop-k.list six (length c.steps-steps.result.now) (omega arith) few (subst (λ n. IsFirstWord c.args.left.now (word_at c.loop-k.list 0) × ((j : ℕ) → j < n → IsWordOf c.args.left.now c.steps-steps.result.now j (word_at c.loop-k.list (suc j)))) (sym done) (c.loop-k.invariant.1, c.loop-k.invariant.2)))
