-- Content that an object may tell. Where it tells nothing, it is None before and after every call.
use Rattle.std.specs.Prelude.{◌≡◌, ℕ, ◌<◌, List, length, take, Option}
use Rattle.std.specs.Io.KnownBytes.{append_known, prepend_known}

-- what is told has grown by a prefix of the text
abbrev pub HasPart : Option (List ℕ) → List ℕ → Option (List ℕ) → Type 0
HasPart old text new = (k : ℕ) × (new ≡ append_known old (take k text))

-- what is told has grown by a prefix of the text that is not the whole text
abbrev pub HasProperPart : Option (List ℕ) → List ℕ → Option (List ℕ) → Type 0
HasProperPart old text new = (k : ℕ) × (k < length text) × (new ≡ append_known old (take k text))

-- some bytes were taken from the front of what was left; their number meets P
abbrev pub TakesBytes : Option (List ℕ) → Option (List ℕ) → (ℕ → Type 0) → Type 0
TakesBytes old new P = (bytes : List ℕ) × (old ≡ prepend_known bytes new) × P (length bytes)
