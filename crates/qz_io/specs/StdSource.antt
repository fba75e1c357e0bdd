-- A source over a stream of the system.
use Rattle.std.specs.Prelude.{ℕ, List, Option}

-- the bytes that the stream has left, where it tells them, and how often it failed
pub record InputStream : Type 0 where
  pub left : Option (List ℕ)
  pub faults : ℕ
