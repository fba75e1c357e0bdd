-- Readings of the front of a text, part by part: each gives a value and what is left, or how many bytes are left where
-- the text stops being lawful.
use Rattle.std.specs.Prelude.{ℕ, zero, suc, ◌+◌, ◌-◌, ◌*◌, ◌==◌, nat_lt, nat_le, ◌&&◌, if◌then◌else◌, max, Bool, true, false, List, [], ◌∷◌, map, length, take, drop, codes, Option, Some, None, option_map, Result, Ok, Err}
use Rattle.std.specs.Option.{ok_or}
use Rattle.qz_circ.specs.FirstFault.{◌>>=◌}
use Rattle.qz_circ.specs.Circuit.{Limits, gates_of}
use Rattle.qz_circ.specs.Bounds.{gate_count}
use Rattle.qz_circ.specs.RuleText.{Head, gate_text}

-- a value and the bytes after its text, or how many bytes are left
abbrev pub Read : Type 0 → Type 0
Read X = Result (X × List ℕ) ℕ

-- how many bytes two lists share from the front on
unfoldable pub common : List ℕ → List ℕ → ℕ
common [] bytes = 0
common (c ∷ text) [] = 0
common (c ∷ text) (b ∷ bytes) = if c == b then suc (common text bytes) else 0

-- the most bytes that one of these texts shares with the bytes
unfoldable pub shared : List (List ℕ) → List ℕ → ℕ
shared [] bytes = 0
shared (text ∷ texts) bytes = max (common text bytes) (shared texts bytes)

-- the number of the first text with which the bytes begin, and the bytes after it
unfoldable pub first_text : List (List ℕ) → List ℕ → Option (ℕ × List ℕ)
first_text [] bytes = None
first_text (text ∷ texts) bytes =
    if common text bytes == length text then Some (0, drop (length text) bytes)
    else option_map (λ found. (suc found.0, found.1)) (first_text texts bytes)

-- one of these texts, told by its number
unfoldable pub one_of_at : List (List ℕ) → List ℕ → Read ℕ
one_of_at texts bytes = ok_or (first_text texts bytes) (length bytes - shared texts bytes)

-- no text begins with another one
abbrev pub is_apart : List ℕ → List (List ℕ) → Bool
is_apart text [] = true
is_apart text (other ∷ others) = nat_lt (common text other) (length text) && nat_lt (common text other) (length other) && is_apart text others

abbrev pub are_apart : List (List ℕ) → Bool
are_apart [] = true
are_apart (text ∷ texts) = is_apart text texts && are_apart texts

-- ---- numbers

-- The rest of a number of at most nine digits and the byte that ends it, behind digits that make value. It is no less than low.
unfoldable pub digits_at : ℕ → ℕ → ℕ → List ℕ → Read ℕ
digits_at stop low value [] = Err 0
digits_at stop low value (b ∷ bytes) =
    if (b == stop) && nat_le low value then Ok (value, bytes)
    else if nat_lt 0 value && nat_lt value 100000000 && nat_le 48 b && nat_lt b 58 then digits_at stop low (value * 10 + (b - 48)) bytes
    else Err (suc (length bytes))

-- a number of at most nine digits without leading zeros, and the byte that ends it. It is no less than low
unfoldable pub number_at : ℕ → ℕ → List ℕ → Read ℕ
number_at stop low [] = Err 0
number_at stop low (b ∷ bytes) =
    if (b == 48) && (low == 0) then digits_at stop low 0 bytes
    else if nat_lt 48 b && nat_lt b 58 then digits_at stop low (b - 48) bytes
    else Err (suc (length bytes))

-- ---- members

-- the texts of the gates within limits, in their order
unfoldable pub gate_texts : Limits → List (List ℕ)
gate_texts b = map (gate_text b.grain) (gates_of b)

-- what a member begins with: the whole line of the empty circuit, or a gate where gates are allowed
unfoldable pub first_texts : Limits → List (List ℕ)
first_texts b = codes "-\n" ∷ (if b.n == 0 then [] else gate_texts b)

-- what follows a gate: the end of the line, or a semicolon (59) and another gate
unfoldable pub next_texts : Limits → List (List ℕ)
next_texts b = (10 ∷ []) ∷ map (λ text. 59 ∷ text) (gate_texts b)

-- The rest of a member behind gates whose circuit has this rank, where so many more are allowed: the rank of the whole.
unfoldable pub more_at : Limits → ℕ → ℕ → List ℕ → Read ℕ
more_at b zero r bytes = do
  end ← one_of_at (take 1 (next_texts b)) bytes
  Ok (r, end.1)
more_at b (suc left) r bytes = do
  next ← one_of_at (next_texts b) bytes
  if next.0 == 0 then Ok (r, next.1) else more_at b left (r * gate_count b + next.0) next.1

-- the line of a member, as the rank of its circuit
unfoldable pub member_at : Limits → List ℕ → Read ℕ
member_at b bytes = do
  first ← one_of_at (first_texts b) bytes
  if first.0 == 0 then Ok (0, first.1) else more_at b (b.n - 1) first.0 first.1

-- ---- classes

-- so many parts, one after the other
unfoldable pub times_at : {X : Type 0} → (List ℕ → Read X) → ℕ → List ℕ → Read (List X)
times_at part zero bytes = Ok ([], bytes)
times_at part (suc k) bytes = do
  x ← part bytes
  xs ← times_at part k x.1
  Ok (x.0 ∷ xs.0, xs.1)

-- the words that lines begin with
unfoldable pub head_word : List ℕ
head_word = codes "quartz-rules "

unfoldable pub bounds_word : List ℕ
bounds_word = codes "\nbounds "

unfoldable pub classes_word : List ℕ
classes_word = codes "classes "

unfoldable pub class_word : List ℕ
class_word = codes "class "

unfoldable pub end_word : List ℕ
end_word = codes "end\n"

-- a word and a number no less than low, on a line of their own
unfoldable pub count_at : List ℕ → ℕ → List ℕ → Read ℕ
count_at letters low bytes = do
  word ← one_of_at (letters ∷ []) bytes
  number_at 10 low word.1

-- a class, as the ranks of its members
unfoldable pub class_at : Limits → List ℕ → Read (List ℕ)
class_at b bytes = do
  count ← count_at class_word 2 bytes
  times_at (member_at b) count.0 count.1

-- the classes and the end of a file, behind its first two lines
unfoldable pub classes_at : Limits → List ℕ → Read (List (List ℕ))
classes_at b bytes = do
  count ← count_at classes_word 0 bytes
  classes ← times_at (class_at b) count.0 count.1
  end ← one_of_at (end_word ∷ []) classes.1
  Ok (classes.0, end.1)

-- the signs of the versions: 1 and 2
unfoldable pub version_signs : List (List ℕ)
version_signs = (49 ∷ []) ∷ (50 ∷ []) ∷ []

-- what stands before the numbers of the second line, as the number of the version among the two
unfoldable pub version_at : List ℕ → Read ℕ
version_at bytes = do
  word ← one_of_at (head_word ∷ []) bytes
  version ← one_of_at version_signs word.1
  behind ← one_of_at (bounds_word ∷ []) version.1
  Ok (version.0, behind.1)

-- the numbers behind those of gates and qubits: that of parameters and, where it is told, the grain
unfoldable pub last_numbers_at : Bool → ℕ → ℕ → List ℕ → Read Head
last_numbers_at true n q bytes = do
  m ← number_at 10 0 bytes
  Ok (record { n = n; q = q; m = m.0; grain = None }, m.1)
last_numbers_at false n q bytes = do
  m ← number_at 32 0 bytes
  grain ← number_at 10 0 m.1
  Ok (record { n = n; q = q; m = m.0; grain = Some grain.0 }, grain.1)

-- the first two lines
unfoldable pub head_at : List ℕ → Read Head
head_at bytes = do
  version ← version_at bytes
  n ← number_at 32 0 version.1
  q ← number_at 32 0 n.1
  last_numbers_at (version.0 == 0) n.0 q.0 q.1
