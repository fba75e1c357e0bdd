use Rattle.std.proofs.Common.{◌≡◌, drop}
use Rattle.qz_io.specs.Files.{files_of}
use Rattle.qz_io.proofs.sure_shelf.place_of.Given as goal

abbrev pub invariant-loop-k : goal.invariant-loop-k
invariant-loop-k l = files_of (drop l.k l.files) l.name ≡ files_of l.files l.name
