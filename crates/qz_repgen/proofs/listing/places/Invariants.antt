use Rattle.std.proofs.Common.{take}
use Rattle.qz_repgen.specs.Listing.{HasPlaces}
use Rattle.qz_repgen.specs.Shards.{journals_of}
use Rattle.qz_repgen.proofs.listing.places.Given as goal

-- those of the shards so far
abbrev pub invariant-loop-number : goal.invariant-loop-number
invariant-loop-number l = HasPlaces l.fn.b (journals_of (take l.number l.shards)) l.places.items
