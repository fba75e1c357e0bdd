-- A search by a table finds what the search by its classes finds.
use Rattle.std.proofs.Common.{◌≡◌, ℕ, ◌≤◌, List, length}
use Rattle.std.specs.List.{AllByRecursion}
use Rattle.qz_circ.specs.Circuit.{Circuit}
use Rattle.qz_circ.specs.ProgramCircuits.{ProgramCircuit, IsProgramGate}
use Rattle.qz_circ.specs.Replacement.{children}
use Rattle.qz_circ.specs.Search.{PlanNumbers, IsPlan, best_found}
use Rattle.qz_rewrite.specs.SoundClasses.{AreSoundClasses}
use Rattle.qz_search.specs.Tables.{AreAlike}
use Rattle.qz_search.proofs.Alike.{known}
use Rattle.qz_search.proofs.ChildLaws.{table_keeps_gates}
use Rattle.qz_search.proofs.RoundLaws.{same_found}

pub table_found : (classes : List (List Circuit)) → (n : ℕ) × (n ≤ 3) × AreSoundClasses n classes → (table : ProgramCircuit → List ProgramCircuit) (plan : PlanNumbers) (c : ProgramCircuit) → AreAlike table (children classes) → IsPlan plan → AllByRecursion (IsProgramGate 64) c → length c ≤ 20000
    → best_found table plan c ≡ best_found (children classes) plan c
table_found classes sound table plan c alike lawful gates few =
    same_found table (children classes) plan (known table (children classes) alike) (table_keeps_gates sound.0 classes sound.1 sound.2 table alike) c gates few
