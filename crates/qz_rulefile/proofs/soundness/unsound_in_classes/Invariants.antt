use Rattle.std.proofs.Common.{ℕ, ◌<◌, length}
use Rattle.qz_circ.specs.RuleFiles.{numbered_class}
use Rattle.qz_rulefile.specs.Soundness.{AreSoundBefore}
use Rattle.qz_rulefile.proofs.soundness.unsound_in_classes.Given as goal

abbrev pub invariant-loop-c : goal.invariant-loop-c
invariant-loop-c g l = (d : ℕ) → d < l.c → AreSoundBefore l.lists.bounds.q l.lists.classes d (length (numbered_class l.lists.classes d))
