-- Where a shelf in memory stands.
use Rattle.std.specs.Prelude.{ℕ, ◌≤◌, ◌<◌, List, [], length, drop, Option, Some, None, unwrap_or}
use Rattle.qz_io.specs.Files.{File}
use Rattle.qz_io.specs.SureSource.{Reading}
use Rattle.qz_io.specs.SureShelf.{bytes_at}
use Rattle.qz_io.specs.declared.sure_shelf.Place.{Place}

-- the bytes of the file at this place, and none past the end of the list
abbrev pub bytes_of : List File → ℕ → List ℕ
bytes_of files k = unwrap_or (bytes_at files k) []

-- what was read of the open file
abbrev pub opened_at : List File → Option Place → Option Reading
opened_at files None = None
opened_at files (Some place) = Some (record { done = place.done; left = drop place.done (bytes_of files place.file) })

-- the open file is one of these, and no more bytes of it were taken than it has
abbrev pub IsPlace : List File → Option Place → Type 0
IsPlace files None = Unit {0}
IsPlace files (Some place) = (place.file < length files) × (place.done ≤ length (bytes_of files place.file))
