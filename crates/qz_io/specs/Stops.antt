-- Places at which an object in memory fails.
use Rattle.std.specs.Prelude.{◌≡◌, ℕ, ◌-◌, nat_lt, min, List, [], ◌∷◌, slice_get, Some, if◌then◌else◌}

-- the stops that are left, and how often they made a call fail
pub record Stopping : Type 0 where
  pub places : List ℕ
  pub faults : ℕ

-- the first stop that is left is here
abbrev pub IsAtStop : List ℕ → ℕ → Type 0
IsAtStop stops here = slice_get stops 0 ≡ Some here

-- how many of n bytes come before the first stop that is left; a stop that lies behind holds nothing back
abbrev pub before_stop : ℕ → List ℕ → ℕ → ℕ
before_stop at [] n = n
before_stop at (stop ∷ stops) n = if nat_lt stop at then n else min n (stop - at)
