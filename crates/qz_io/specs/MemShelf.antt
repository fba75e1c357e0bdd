-- A shelf in memory that fails at given places.
use Rattle.std.specs.Prelude.{ℕ, Bool, List, Option}
use Rattle.qz_io.specs.Files.{File}
use Rattle.qz_io.specs.SureSource.{Reading}

-- the files, what was read of the open one, the stops that are left, how often it failed, and whether the next opening
-- fails
pub record StoppingHoldings : Type 0 where
  pub files : List File
  pub opened : Option Reading
  pub stops : List ℕ
  pub faults : ℕ
  pub fail_open : Bool
