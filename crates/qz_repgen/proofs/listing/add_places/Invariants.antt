use Rattle.std.proofs.Common.{List, ℕ, take}
use Rattle.qz_shard.specs.Journals.{AreClassesOf}
use Rattle.qz_repgen.specs.Listing.{AddsPlacesOf}
use Rattle.qz_repgen.proofs.listing.add_places.Given as goal

-- those of the classes so far are added
abbrev pub invariant-loop-i : goal.invariant-loop-i
invariant-loop-i l = (classes : List (List ℕ)) → AreClassesOf l.shard.bounds l.shard.journal classes → AddsPlacesOf l.number classes (take l.i classes) l.fn.places.items l.places.items
