-- A shelf over the files of the system.
use Rattle.std.specs.Prelude.{◌≡◌, ◌≢◌, ℕ, List, Bool, true, false, Option, Some, None, Result, Ok, Err}
use Rattle.std.specs.IoError.{error_kind}
use Rattle.std.specs.declared.io.Error.{Error}
use Rattle.std.specs.declared.io.ErrorKind.TheVariants.{NotFound}
use Rattle.qz_io.specs.declared.fault.IoFault.{IoFault}
use Rattle.qz_io.specs.declared.fault.IoFault.TheVariants.{Failed}
use Rattle.qz_io.specs.Counts.{counted}

-- whether a file is open, the bytes that it has left, where it tells them, and how often the shelf failed
pub record Opened : Type 0 where
  pub is_open : Bool
  pub rest : Option (List ℕ)
  pub faults : ℕ

-- the bytes that the open file has left; nothing is told where none is open
abbrev pub rest_of_file : {F : Type 0} → (F → Option (List ℕ)) → Option F → Option (List ℕ)
rest_of_file remaining None = None
rest_of_file remaining (Some file) = remaining file

-- What an opening answers and leaves: the file is open; or none is, where the system reports that there is no such file; and any
-- other error is counted, and leaves open what was open.
abbrev pub IsKept : {F : Type 0} → (F → Option (List ℕ)) → Result F Error → Opened → Opened → Result Bool IoFault → Type 0
IsKept remaining (Ok file) old new result = (result ≡ Ok true) × (new ≡ record { is_open = true; rest = remaining file; faults = old.faults })
IsKept remaining (Err error) old new result =
    (error_kind error ≡ NotFound → (result ≡ Ok false) × (new ≡ record { is_open = false; rest = None; faults = old.faults }))
    × (error_kind error ≢ NotFound → (result ≡ Err Failed) × (new ≡ record old { faults = counted old.faults }))
