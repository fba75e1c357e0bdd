-- How counts of faults rise.
use Rattle.std.specs.Prelude.{◌≡◌, ℕ, ◌+◌, ◌<◌, ◌⊎◌, min}

-- the last value of a count, at which it stands still: 2 ^ 64 - 1
abbrev pub last_count : ℕ
last_count = 18446744073709551615

-- the count after one more
abbrev pub counted : ℕ → ℕ
counted n = min (n + 1) last_count

-- the count is greater, or stands at its last value
abbrev pub Rose : ℕ → ℕ → Type 0
Rose before after = (before < after) ⊎ (after ≡ last_count)
