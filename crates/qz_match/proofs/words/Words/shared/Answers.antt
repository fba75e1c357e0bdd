use Rattle.std.proofs.Common.{◌≡◌, ℕ, ◌<◌, length, get_or, sym, ◌∙◌, arith, rules}
use Rattle.std.proofs.lemmas.List.{take_more_same}
use Rattle.qz_match.proofs.RowSteps.{at_default}
use Rattle.qz_match.specs.Words.{word_at}
use Rattle.qz_match.proofs.words.Words.shared.Goals as goal

pub loop-k-preserved : goal.loop-k-preserved
loop-k-preserved c =
    let ours = c.list-ours.result.now in
    let others = c.list-others.result.now in
    let k = c.loop-k.k in
    let less = c.loop-k-test.true in
    let more : k < length others = search rules in
    let same = c.are_same.ensures c.if-are_same.true in
    (take_more_same ours others k _ less more c.loop-k.invariant.0 same, omega arith)
