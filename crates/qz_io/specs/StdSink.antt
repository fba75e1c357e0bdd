-- A sink over a stream of the system.
use Rattle.std.specs.Prelude.{ℕ, List, Option}

-- the bytes that the stream took, where it tells them, and how often it failed
pub record OutputStream : Type 0 where
  pub taken : Option (List ℕ)
  pub faults : ℕ
