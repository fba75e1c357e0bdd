use Rattle.qz_rulefile.proofs.SoundMembers.{first_is_sound, one_more_sound}
use Rattle.qz_rulefile.proofs.soundness.unsound_in_class.Goals as goal

pub loop-k-init : goal.loop-k-init
loop-k-init g c = first_is_sound c.args.lists.now.bounds.q c.args.lists.now.classes c.args.c

pub loop-k-preserved : goal.loop-k-preserved
loop-k-preserved g c =
    one_more_sound c.args.lists.now.bounds.q c.in_ok-other.other.q c.args.lists.now.classes c.args.c c.loop-k.k c.in_ok-same.same c.in_ok-other.ensures.qubits c.loop-k.invariant
    (c.in_ok-same.ensures.exact _ _ c.in_ok-other.ensures.stands c.in_ok-first.ensures.stands) c.if-not-same.false
