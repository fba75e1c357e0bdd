use Rattle.std.proofs.Common.{ℕ, length, below_more}
use Rattle.qz_circ.specs.RuleFiles.{numbered_class}
use Rattle.qz_rulefile.specs.Soundness.{AreSoundBefore}
use Rattle.qz_rulefile.proofs.soundness.unsound_in_classes.Goals as goal

pub loop-c-preserved : goal.loop-c-preserved
loop-c-preserved g c =
    below_more (λ (d : ℕ). AreSoundBefore c.args.lists.now.bounds.q c.args.lists.now.classes d (length (numbered_class c.args.lists.now.classes d))) c.loop-c.c c.loop-c.invariant
    (rw c.in_default.is at c.in_ok-found.ensures.found)
