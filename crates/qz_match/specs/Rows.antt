-- Tables of left sides by their words, and how far the rows of one are asked.
use Rattle.std.specs.Prelude.{◌≡◌, ℕ, suc, ◌<◌, ◌≤◌, ◌⊎◌, List, [], length, map, take, slice_index_or}
use Rattle.qz_circ.specs.ProgramCircuits.{ProgramCircuit}
use Rattle.qz_match.specs.declared.neighbours.Link.{Link}
use Rattle.qz_match.specs.declared.words.Word.{Word}
use Rattle.qz_match.specs.declared.rows.Row.{Row}
use Rattle.qz_match.specs.declared.rows.Cursor.{Cursor}
use Rattle.qz_match.specs.Words.{Leads, LeadsNowhere}

-- the words of all rows
abbrev pub words_of : List Row → List (List Word)
words_of rows = map (λ row. row.words) rows

-- the words of the row with this number
abbrev pub words_at : List (List Word) → ℕ → List Word
words_at all i = slice_index_or all i []

-- the row with this number
abbrev pub row_at : List Row → ℕ → Row
row_at rows i = slice_index_or rows i (record { words = []; shared = 0; skips = [] })

-- the row shares its first words with the one before, and with those to which it is skipped back
pub record IsRowOf (rows : List Row) (i : ℕ) : Type 0 where
  pub shared : (j : ℕ) → suc j ≡ i → take (row_at rows i).shared (row_at rows i).words ≡ take (row_at rows i).shared (row_at rows j).words
  pub within : (r : ℕ) → r < 6 → slice_index_or (row_at rows i).skips r 0 ≤ i
  pub alike : (r j : ℕ) → r < 6 → slice_index_or (row_at rows i).skips r 0 ≤ j → j < i → take (suc r) (row_at rows i).words ≡ take (suc r) (row_at rows j).words

-- a skip leads before the new row, whose number is n, or where that of the last one leads, with which it shares the words up to this
abbrev pub IsSkip : List ℕ → ℕ → ℕ → ℕ → ℕ → Type 0
IsSkip last shared n r skip = (skip ≡ n) ⊎ ((r < shared) × (skip ≡ slice_index_or last r 0))

-- the new row, whose number is n, of these words behind some others
pub record IsRowBehind (rows : List Row) (words : List Word) (row : Row) : Type 0 where
  pub is : row.words ≡ words
  pub shared : (j : ℕ) → suc j ≡ length rows → take row.shared words ≡ take row.shared (row_at rows j).words
  pub skips : (r : ℕ) → r < 6 → (slice_index_or row.skips r 0 ≡ length rows) ⊎ ((j : ℕ) × (suc j ≡ length rows) × (r < row.shared) × (slice_index_or row.skips r 0 ≡ slice_index_or (row_at rows j).skips r 0))

-- so do all rows
abbrev pub AreRows : List Row → Type 0
AreRows rows = (i : ℕ) → i < length rows → IsRowOf rows i

module _ (c : ProgramCircuit) (links : List Link) (all : List (List Word)) where
  -- the words of the last row that is left lead to the positions that are kept
  pub record IsCursor (cursor : Cursor) : Type 0 where
    pub within : cursor.left ≤ length all
    pub few : (i : ℕ) → suc i ≡ cursor.left → cursor.kept ≤ length (words_at all i)
    pub leads : (i : ℕ) → suc i ≡ cursor.left → Leads c links cursor.first (words_at all i) cursor.kept cursor.found

  -- none of the rows that were left leads anywhere
  abbrev pub NoneLeads : Cursor → Type 0
  NoneLeads old = (i : ℕ) → i < old.left → LeadsNowhere c links old.first (words_at all i)

  -- row k is the last of those that were left whose words lead somewhere, and the rows before it are left
  pub record IsNext (old new : Cursor) (k : ℕ) : Type 0 where
    pub same : new.first ≡ old.first
    pub left : new.left ≡ k
    pub within : k < old.left
    pub nowhere : (i : ℕ) → k < i → i < old.left → LeadsNowhere c links old.first (words_at all i)
    pub leads : Leads c links old.first (words_at all k) (length (words_at all k)) new.found
    pub cursor : IsCursor new

  -- some of the rows that were left are so no more: these lead nowhere
  pub record IsAsked (old new : Cursor) : Type 0 where
    pub same : new.first ≡ old.first
    pub fewer : new.left ≤ old.left
    pub nowhere : (i : ℕ) → new.left ≤ i → i < old.left → LeadsNowhere c links old.first (words_at all i)
    pub cursor : IsCursor new
