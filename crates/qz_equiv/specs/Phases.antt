-- When one matrix is a monomial and a power of √2 times another, and the monomials that can be.
use Rattle.std.specs.Prelude.{◌≡◌, ◌≢◌, ◌↔◌, ℕ, zero, suc, ◌^◌, ◌<◌, ◌≤◌, ℤ, pos, ◌-ℤ◌}
use Rattle.qz_ring.specs.Exponent.{Exponent as Monomial, IsExponent as IsMonomial, minus, turn_alone, reach_of}
use Rattle.qz_ring.specs.Terms.{Terms, count, largest_reach}
use Rattle.qz_ring.specs.Counts.{CountsNothing}
use Rattle.qz_matrix.specs.Entries.{Entries, entry_at}

-- the counts times √2, which is an eighth of a circle less three eighths of a circle
abbrev pub root : (Monomial → ℤ) → Monomial → ℤ
root counts e = counts (minus e (turn_alone 64)) -ℤ counts (minus e (turn_alone 192))

-- the counts times √2, as often as the number says
unfoldable pub roots : ℕ → (Monomial → ℤ) → Monomial → ℤ
roots zero counts = counts
roots (suc d) counts = root (roots d counts)

-- new counts what old counts times √2, as often as d says
abbrev pub IsTimesRoots : ℕ → Terms → Terms → Type 0
IsTimesRoots d old new = (e : Monomial) → IsMonomial e → count new e ≡ roots d (count old) e

-- x is y times the monomial, and times √2 as often as d says
abbrev pub IsMultiple : ℕ → Monomial → Terms → Terms → Type 0
IsMultiple d by x y = (e : Monomial) → IsMonomial e → count x e ≡ roots d (count y) (minus e by)

-- each entry in a column of x is that of y times the monomial, and times √2 as often as d says
abbrev pub IsMultipleColumn : ℕ → Monomial → Entries → Entries → ℕ → Type 0
IsMultipleColumn d by x y j = (i : ℕ) → i < 2 ^ x.q → IsMultiple d by (entry_at x i j) (entry_at y i j)

-- x is y times the monomial, and times √2 as often as d says
abbrev pub IsMultipleMatrix : ℕ → Monomial → Entries → Entries → Type 0
IsMultipleMatrix d by x y = (j : ℕ) → j < 2 ^ x.q → IsMultipleColumn d by x y j

-- x is some monomial times y, and times √2 as often as d says
abbrev pub HasPhase : ℕ → Entries → Entries → Type 0
HasPhase d x y = (u : Monomial) × IsMonomial u × IsMultipleMatrix d u x y

-- both sums are zero, or neither is
unfoldable pub AreAlike : Terms → Terms → Type 0
AreAlike a b = CountsNothing a ↔ CountsNothing b

-- a column of x has zeros in the same rows as that of y
abbrev pub AreAlikeColumns : Entries → Entries → ℕ → Type 0
AreAlikeColumns x y j = (i : ℕ) → i < 2 ^ x.q → AreAlike (entry_at x i j) (entry_at y i j)

-- x has zeros in the same places as y
abbrev pub AreAlikeMatrices : Entries → Entries → Type 0
AreAlikeMatrices x y = (j : ℕ) → j < 2 ^ x.q → AreAlikeColumns x y j

-- the sum counts the exponent, which has a turn below 512 and no power greater than the largest in the sum
pub record IsCountedExponent (ts : Terms) (e : Monomial) : Type 0 where
  pub proper : IsMonomial e
  pub counted : count ts e ≢ pos 0
  pub reach : reach_of e ≤ largest_reach ts

-- every entry in the column is zero
abbrev pub IsZeroColumn : Entries → ℕ → Type 0
IsZeroColumn x j = (i : ℕ) → i < 2 ^ x.q → CountsNothing (entry_at x i j)

-- every column is zero
abbrev pub IsZeroMatrix : Entries → Type 0
IsZeroMatrix x = (j : ℕ) → j < 2 ^ x.q → IsZeroColumn x j

-- a row, and an exponent that the entry there in the column counts, with powers of at most the number of gates
abbrev pub IsPivotOfColumn : Entries → ℕ → ℕ × Monomial → Type 0
IsPivotOfColumn x j found = (found.0 < 2 ^ x.q) × IsCountedExponent (entry_at x found.0 j) found.1 × (reach_of found.1 ≤ x.gates)

-- a column, a row, and an exponent that the entry there counts, with powers of at most the number of gates
abbrev pub IsPivot : Entries → ℕ × ℕ × Monomial → Type 0
IsPivot x found = (found.0 < 2 ^ x.q) × IsPivotOfColumn x found.0 (found.1, found.2)
