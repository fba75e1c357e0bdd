use Rattle.std.proofs.Common.{◌≡◌, List, ℕ, map, take}
use Rattle.std.specs.List.{AllZip}
use Rattle.qz_shard.specs.Journals.{AreClassesOf}
use Rattle.qz_repgen.specs.Listing.{class_at_place}
use Rattle.qz_repgen.specs.Shards.{journals_of}
use Rattle.qz_repgen.proofs.listing.listed.Given as goal

-- the classes at the places so far are listed
abbrev pub invariant-loop-place : goal.invariant-loop-place
invariant-loop-place l = (l.classes.bounds ≡ l.fn.b) × ((all : List (List (List ℕ))) → AllZip (AreClassesOf l.fn.b) (journals_of l.shards) all → l.classes.lists ≡ map (class_at_place all) (take l.place-index l.place-items))
