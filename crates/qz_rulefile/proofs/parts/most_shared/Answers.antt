use Rattle.std.proofs.Common.{◌≡◌, ◌∙◌, ap, arith, ◌<◌, length, [], get_or, List, ℕ}
use Rattle.qz_rulefile.specs.Reading.{common}
use Rattle.qz_circ.specs.Vectors.{lists_of}
use Rattle.qz_rulefile.proofs.PartSteps.{more_shared, all_shared, texts_len}
use Rattle.qz_rulefile.proofs.parts.most_shared.Goals as goal

pub loop-k-preserved : goal.loop-k-preserved
loop-k-preserved c =
    let lt : c.loop-k.k < length (lists_of c.args.texts.now) = omega (arith, texts_len c.args.texts.now) in
    let here : c.common_len.result ≡ common (get_or (lists_of c.args.texts.now) c.loop-k.k []) c.args.bytes.now = c.common_len.ensures.common ∙ ap (λ (t : List ℕ). common t c.args.bytes.now) c.text_at.ensures in
    record {
      same = omega (arith, more_shared (lists_of c.args.texts.now) c.args.bytes.now c.loop-k.k c.loop-k.most lt, here, c.max-most.ensures, c.loop-k.invariant.same);
      within = omega (arith, c.max-most.ensures, c.common_len.ensures.within, c.loop-k.invariant.within);
    }

pub returns-clause-shared : goal.returns-clause-shared
returns-clause-shared c = omega (arith, all_shared (lists_of c.args.texts.now) c.args.bytes.now c.loop-k.k c.loop-k.most (omega (arith, texts_len c.args.texts.now)), c.loop-k.invariant.same)
