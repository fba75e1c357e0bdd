-- Readings of many parts that are put into one list, as they come.
use Rattle.std.specs.Prelude.{ℕ, List, [], ◌∷◌, ◌++◌, length, Result, Ok, Err}
use Rattle.qz_circ.specs.FirstFault.{◌>>=◌}
use Rattle.qz_rulefile.specs.declared.faults.ReadError.{ReadError}
use Rattle.qz_rulefile.specs.declared.faults.ReadError.TheVariants.{Memory, Left}
use Rattle.std.specs.Prelude.{◌≡◌}
use Rattle.qz_rulefile.specs.Reading.{Read, times_at, classes_at}
use Rattle.qz_circ.specs.Circuit.{Limits}

-- this fault is that of the reading, unless memory ran out
abbrev pub Fails : {Y : Type 0} → ReadError → Read Y → Type 0
Fails Memory reading = Unit {0}
Fails (Left n) reading = reading ≡ Err n

-- what a call answers, seen by view, is this reading, unless memory ran out
abbrev pub Tells : {X Y : Type 0} → (X → Y × List ℕ) → Result X ReadError → Read Y → Type 0
Tells view (Ok x) reading = reading ≡ Ok (view x)
Tells view (Err fault) reading = Fails fault reading

-- the state after each of these values in turn
abbrev pub after_each : {S X : Type 0} → (S → X → S) → S → List X → S
after_each step s [] = s
after_each step s (x ∷ xs) = after_each step (step s x) xs

-- so many parts one after the other, each of which changes the state
unfoldable pub folded_at : {S X : Type 0} → (S → X → S) → S → (List ℕ → Read X) → ℕ → List ℕ → Read S
folded_at step s part k bytes = do
  xs ← times_at part k bytes
  Ok (after_each step s xs.0, xs.1)

-- the list with one more at its end
abbrev pub one_more : List ℕ → ℕ → List ℕ
one_more xs x = xs ++ x ∷ []

-- all members so far, and where the classes end
pub record Kept : Type 0 where
  pub members : List ℕ
  pub ends : List ℕ

-- with the members of one class more
abbrev pub with_class : Kept → List ℕ → Kept
with_class kept ranks = record { members = kept.members ++ ranks; ends = kept.ends ++ length (kept.members ++ ranks) ∷ [] }

-- all members of these classes, and where the classes end
abbrev pub flat : List (List ℕ) → Kept
flat lists = after_each with_class (record { members = []; ends = [] }) lists

-- the classes and the end of a file, behind its first two lines, as they are kept
unfoldable pub kept_at : Limits → List ℕ → Read Kept
kept_at b bytes = do
  lists ← classes_at b bytes
  Ok (flat lists.0, lists.1)

-- what is read, put behind what was kept before
unfoldable pub class_onto : Kept → Read (List ℕ) → Read Kept
class_onto kept read = read >>= λ ranks. Ok (with_class kept ranks.0, ranks.1)
