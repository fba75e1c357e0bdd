-- A sink in memory that fails at given places.
use Rattle.std.specs.Prelude.{ℕ, List}

-- the bytes that were written, the stops that are left, and how often it failed and wanted memory
pub record StoppingContent : Type 0 where
  pub written : List ℕ
  pub stops : List ℕ
  pub faults : ℕ
  pub wants : ℕ
