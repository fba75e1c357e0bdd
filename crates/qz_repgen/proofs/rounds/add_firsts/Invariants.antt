use Rattle.std.proofs.Common.{◌≡◌, ◌++◌, ℕ, List, take}
use Rattle.qz_shard.specs.Journals.{AreClassesOf}
use Rattle.qz_repgen.specs.Listing.{firsts_of_length}
use Rattle.qz_repgen.proofs.rounds.add_firsts.Given as goal

-- those of the classes so far are added
abbrev pub invariant-loop-i : goal.invariant-loop-i
invariant-loop-i l = (classes : List (List ℕ)) → AreClassesOf l.shard.bounds l.shard.journal classes → l.found.items ≡ l.fn.found.items ++ firsts_of_length l.b l.k (take l.i classes)
