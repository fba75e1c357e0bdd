use Rattle.qz_rulefile.specs.Soundness.{AreSoundBefore}
use Rattle.qz_rulefile.proofs.soundness.unsound_in_class.Given as goal

abbrev pub invariant-loop-k : goal.invariant-loop-k
invariant-loop-k g l = AreSoundBefore l.lists.bounds.q l.lists.classes l.c l.k
