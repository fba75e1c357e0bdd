-- A shelf in memory that never fails.
use Rattle.std.specs.Prelude.{ℕ, List, [], Option, slice_get, option_map, unwrap_or}
use Rattle.qz_io.specs.Files.{File}
use Rattle.qz_io.specs.SureSource.{Reading, at_beginning}

-- the files, and what was read of the open one, if one is open
pub record Holdings : Type 0 where
  pub files : List File
  pub opened : Option Reading

-- the bytes that are left of the open file
abbrev pub rest_of : Option Reading → Option (List ℕ)
rest_of opened = option_map (λ reading. reading.left) opened

-- what was read of the open file; where none is open, it counts as an empty one
abbrev pub reading_of : Option Reading → Reading
reading_of opened = unwrap_or opened (at_beginning [])

-- the bytes of the file at this place of the list
abbrev pub bytes_at : List File → ℕ → Option (List ℕ)
bytes_at files k = option_map (λ file. file.bytes) (slice_get files k)
