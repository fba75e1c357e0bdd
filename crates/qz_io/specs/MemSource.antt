-- A source in memory that fails at given places.
use Rattle.std.specs.Prelude.{ℕ, List}

-- how many bytes were taken, the bytes and the stops that are left, and how often it failed
pub record StoppingReading : Type 0 where
  pub done : ℕ
  pub left : List ℕ
  pub stops : List ℕ
  pub faults : ℕ
