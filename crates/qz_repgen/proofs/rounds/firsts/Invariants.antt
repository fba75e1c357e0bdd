use Rattle.std.proofs.Common.{take}
use Rattle.qz_repgen.specs.Listing.{HasFirsts}
use Rattle.qz_repgen.specs.Shards.{journals_of}
use Rattle.qz_repgen.proofs.rounds.firsts.Given as goal

-- those of the shards so far
abbrev pub invariant-loop-shard : goal.invariant-loop-shard
invariant-loop-shard l = HasFirsts l.b l.k (journals_of (take l.shard-index l.shards)) l.found.items
