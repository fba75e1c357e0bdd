use Rattle.std.proofs.Common.{◌≡◌, take}
use Rattle.qz_circ.specs.RuleFiles.{numbered_class}
use Rattle.qz_circ.specs.Vectors.{lists_of}
use Rattle.qz_search.proofs.class.members_of.Given as goal

abbrev pub invariant-loop-k : goal.invariant-loop-k
invariant-loop-k l = lists_of l.members.items ≡ take l.k (numbered_class l.rules.classes l.c)
