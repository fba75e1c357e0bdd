-- A sink in memory that never fails.
use Rattle.std.specs.Prelude.{ℕ, List}

-- the bytes that were written, and how often memory was wanted in vain
pub record Content : Type 0 where
  pub written : List ℕ
  pub wants : ℕ
