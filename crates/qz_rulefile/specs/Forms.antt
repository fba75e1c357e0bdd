-- What is read of a file before its members are compared.
use Rattle.std.specs.Prelude.{◌≡◌, ℕ, ◌-◌, ◌≤◌, true, Option, unwrap_or, List, ◌++◌, length, Result, Ok, Err}
use Rattle.qz_circ.specs.declared.fault.RuleFault.{RuleFault}
use Rattle.qz_circ.specs.declared.fault.RuleFault.TheVariants as refused
use Rattle.qz_circ.specs.Circuit.{Limits}
use Rattle.qz_circ.specs.Bounds.{IsLawful, refusal}
use Rattle.qz_circ.specs.FaultPlaces.{IsFaultPlace}
use Rattle.qz_circ.specs.RuleText.{head_of}
use Rattle.qz_circ.specs.RuleFiles.{RuleClasses, IsFile, IsHead, Reads, head_refusal, is_told_grain}
use Rattle.qz_rulefile.specs.declared.faults.ReadError.{ReadError}
use Rattle.qz_rulefile.specs.declared.faults.ReadError.TheVariants.{Memory, Left}

-- Behind each front of a file that is its first two lines, with these limits: the classes of the file, or how many bytes are
-- left behind its place.
abbrev pub TellsClasses : Limits → List ℕ → Result RuleClasses ReadError → Type 0
TellsClasses b rest (Ok v) = (v.bounds ≡ b) × ((head : List ℕ) → IsHead (head_of b) head → IsFile b v.classes (head ++ rest))
TellsClasses b rest (Err Memory) = Unit {0}
TellsClasses b rest (Err (Left n)) = (n ≤ length rest) × ((head : List ℕ) → IsHead (head_of b) head → IsFaultPlace (IsFile b) (head ++ rest) (length (head ++ rest) - n))

-- The reading of a file but for soundness: classes within lawful limits of which the file is the text, or why it is none,
-- unless memory ran out.
abbrev pub ReadsForm : List ℕ → Result RuleClasses RuleFault → Type 0
ReadsForm file (Ok v) = IsLawful v.bounds × IsFile v.bounds v.classes file
ReadsForm file (Err refused.Memory) = Unit {0}
ReadsForm file (Err fault) = Reads file (Err fault)

-- Limits of this grain are refused as the first two lines that tell that one; and it is that one, or 4, where that is allowed.
pub record StandsForTold (told : Option ℕ) (grain : ℕ) : Type 0 where
  pub refused : (n q m : ℕ) → refusal (record { n = n; q = q; m = m; grain = grain }) ≡ head_refusal (record { n = n; q = q; m = m; grain = told })
  pub same : is_told_grain told ≡ true → grain ≡ unwrap_or told 4
