-- Numbers as words.
use Rattle.std.specs.Prelude.{ℕ, ◌+◌, ◌-◌, ◌*◌, Bool, ◌&&◌, nat_lt, List, length, fold, if◌then◌else◌, Option, Some, None}
use Rattle.std.specs.Char.{is_ascii_digit}
use Rattle.std.specs.List.{list_all}

-- the number with one digit more at its end
abbrev pub with_digit : ℕ → ℕ → ℕ
with_digit n d = 10 * n + (d - 48)

-- one to eighteen digits, which may begin with zeros, and nothing else
abbrev pub is_number : List ℕ → Bool
is_number word = nat_lt 0 (length word) && nat_lt (length word) 19 && list_all is_ascii_digit word

-- the value of a number; none of any other word
unfoldable pub number_of : List ℕ → Option ℕ
number_of word = if is_number word then Some (fold with_digit 0 word) else None

-- the number that a word is, for an option that has no number yet
abbrev pub new_number : Option ℕ → List ℕ → Option ℕ
new_number None word = number_of word
new_number (Some earlier) word = None
