-- Files by their names.
use Rattle.std.specs.Prelude.{◌≡◌, ℕ, List, [], ◌∷◌, if◌then◌else◌, Bool, is_some, Option, Some, None}
use Rattle.std.specs.Str.{bytes_eq}

-- a name and the bytes of the file with this name
pub record File : Type 0 where
  pub name : List ℕ
  pub bytes : List ℕ

-- the bytes of the file with a name, if there is one
abbrev pub Files : Type 0
Files = List ℕ → Option (List ℕ)

-- the files of a list, where the first of two equal names counts
abbrev pub files_of : List File → Files
files_of [] name = None
files_of (file ∷ files) name = if bytes_eq file.name name then Some file.bytes else files_of files name

-- whether there is a file with this name, where the files are told
abbrev pub TellsWhether : Option Files → List ℕ → Bool → Type 0
TellsWhether None name found = Unit {0}
TellsWhether (Some files) name found = found ≡ is_some (files name)

-- the rest of the open file is the whole file with this name, where the files are told
abbrev pub IsWholeFile : Option Files → List ℕ → Option (List ℕ) → Type 0
IsWholeFile None name rest = Unit {0}
IsWholeFile (Some files) name rest = rest ≡ files name
