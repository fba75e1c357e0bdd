-- Where a text begins with that of a token or of a gap, at least this much is taken.
use Rattle.std.proofs.Common.{◌≡◌, ℕ, suc, ◌+◌, ◌<◌, ◌≤◌, ◌⊎◌, inl, inr, Bool, true, false, ◌||◌, cond, List, [], ◌∷◌, ◌++◌, length, drop, refl, ◌∙◌, ap, append_assoc, length-append, arith, ◌==◌}
use Rattle.std.specs.Prelude.{Ok, Err, Result, Option, Some, None, nat_lt, codes, slice_index}
use Rattle.std.specs.Char.{is_ascii_digit, is_ascii_alphabetic}
use Rattle.std.specs.List.{prefix_len, list_all}
use Rattle.std.proofs.lemmas.Bool.{and_parts}
use Rattle.std.proofs.lemmas.Bool.Decides.{nat_tests}
use Rattle.std.proofs.Math.Seq.{drop-append_seam, drop-append-add, get_or-append_seam}
use Rattle.qz_circ.specs.declared.token.Kind.{Kind}
use Rattle.qz_circ.specs.declared.fault.LexFault.{LexFault}
use Rattle.qz_circ.specs.declared.fault.LexFault.TheVariants.{BadByte, LongName, BigNumber, Memory}
use Rattle.qz_circ.specs.declared.token.Kind.TheVariants.{Word, Pi, Whole, Real, Text, Semicolon, Comma, LeftParen, RightParen, LeftBracket, RightBracket, LeftBrace, RightBrace, Plus, Minus, Star, Slash, Caret, Arrow, Equal}
use Rattle.qz_circ.specs.Tokens.{Front, is_blank, is_in_line, is_in_word, is_in_quotes, digits, word, decimal_length, exponent_length, sign_length, number, quoted, one_byte_sign, sign, front}
use Rattle.qz_circ.specs.TokenTexts.{AreDigits, IsExponent, HasPoint, HasExponent, IsWord, Spells, AreBlanks, IsTextOf}

-- What was found at the front of a text has at least so many bytes. Of a name or a number past its limit that is said of all its
-- bytes, and there is none where no token begins.
abbrev pub Reaches : List ℕ → ℕ → Result Front LexFault → Type 0
Reaches z len (Ok first) = len ≤ first.1
Reaches z len (Err (LongName place)) = len ≤ prefix_len is_in_word z
Reaches z len (Err (BigNumber place)) = len ≤ digits z
Reaches z len (Err (BadByte place)) = ⊥
Reaches z len (Err Memory) = ⊥

-- ---- runs of bytes of one class

run_most : (p : ℕ → Bool) (x rest : List ℕ) → list_all p x ≡ true → length x ≤ prefix_len p (x ++ rest)
run_most p [] rest h = omega arith
run_most p (b ∷ x) rest h =
    let parts = and_parts (p b) (list_all p x) h in
    let more = run_most p x rest parts.1 in
    rw parts.0 (omega arith)

pub run_exact : (p : ℕ → Bool) (x : List ℕ) (b : ℕ) (rest : List ℕ) → list_all p x ≡ true → p b ≡ false → prefix_len p (x ++ b ∷ rest) ≡ length x
run_exact p [] b rest h ends = rw ends refl
run_exact p (c ∷ x) b rest h ends =
    let parts = and_parts (p c) (list_all p x) h in
    let more = run_exact p x b rest parts.1 ends in
    rw (parts.0, more) (omega arith)

-- ---- numbers

-- digits before a point and behind it
pub decimal_point : (before tail : List ℕ) → AreDigits before → 0 < length before + digits tail → decimal_length (before ++ 46 ∷ tail) ≡ length before + 1 + digits tail
unfolding decimal_length
decimal_point before tail all some =
    let whole = run_exact is_ascii_digit before 46 tail all refl in
    let point = get_or-append_seam before 46 tail 0 in
    let behind = drop-append-add before (46 ∷ tail) 1 in
    let test : nat_lt 0 (length before + digits tail) ≡ true = grind (arith, nat_tests) in
    rw (whole, point, behind, test) refl

pub decimal_plain : (whole : List ℕ) (b : ℕ) (tail : List ℕ) → AreDigits whole → is_ascii_digit b ≡ false → (b == 46) ≡ false → decimal_length (whole ++ b ∷ tail) ≡ length whole
unfolding decimal_length
decimal_plain whole b tail all ends other =
    let run = run_exact is_ascii_digit whole b tail all ends in
    let point = get_or-append_seam whole b tail 0 in
    rw (run, point, other) refl

more_or_same : (t : Bool) (a b : ℕ) → a ≤ cond t (a + 1 + b) a
more_or_same true a b = omega arith
more_or_same false a b = omega arith

decimal_whole : (z : List ℕ) → digits z ≤ decimal_length z
unfolding decimal_length
decimal_whole z = more_or_same _ (digits z) (digits (drop (digits z + 1) z))

pub is_e : (e : ℕ) → (e ≡ 101) ⊎ (e ≡ 69) → ((e == 101) || (e == 69)) ≡ true
is_e e (inl h) = rw h refl
is_e e (inr h) = rw h refl

pub is_sign : (b : ℕ) → (b ≡ 43) ⊎ (b ≡ 45) → sign_length b ≡ 1
is_sign b (inl h) = rw h refl
is_sign b (inr h) = rw h refl

pub is_no_sign : (b : ℕ) → is_ascii_digit b ≡ true → sign_length b ≡ 0
is_no_sign b h = grind (arith, nat_tests)

exponent_most : (x rest : List ℕ) → IsExponent x → length x ≤ exponent_length (x ++ rest)
unfolding exponent_length
exponent_most [] rest h = absurd h
exponent_most (e ∷ []) rest h = absurd h.1
exponent_most (e ∷ b ∷ x) rest (letter, inl all) =
    let digit = (and_parts (is_ascii_digit b) (list_all is_ascii_digit x) all).0 in
    let most = run_most is_ascii_digit (b ∷ x) rest all in
    let some : nat_lt 0 (prefix_len is_ascii_digit (b ∷ (x ++ rest))) ≡ true = grind (arith, nat_tests) in
    rw (is_e e letter, is_no_sign b digit, some) (omega (arith, most))
exponent_most (e ∷ b ∷ x) rest (letter, inr signed) =
    let most = run_most is_ascii_digit x rest signed.1 in
    let some : nat_lt 0 (prefix_len is_ascii_digit (x ++ rest)) ≡ true = grind (arith, nat_tests) in
    rw (is_e e letter, is_sign b signed.0, some) (omega (arith, most))

-- a choice between a real number, a fault and a whole number
number_choice : (z : List ℕ) (t u : Bool) (len n value place : ℕ) → (t ≡ false → n ≤ digits z) → len ≤ n → Reaches z len (cond t (Ok (Some Real, n)) (cond u (Err (BigNumber place)) (Ok (Some (Whole value), digits z))))
number_choice z true u len n value place less most = most
number_choice z false true len n value place less most = omega (arith, less refl)
number_choice z false false len n value place less most = omega (arith, less refl)

not_less : (a b : ℕ) → nat_lt a b ≡ false → b ≤ a
not_less a b h = grind (arith, nat_tests)

number_reaches : (place len : ℕ) (z : List ℕ) → len ≤ decimal_length z + exponent_length (drop (decimal_length z) z) → Reaches z len (number place z)
unfolding number
number_reaches place len z most = number_choice z _ _ len _ _ place (not_less (digits z) _) most

-- what begins a number
abbrev pub BeginsNumber : ℕ → Type 0
BeginsNumber b = (is_ascii_digit b ≡ true) ⊎ (b ≡ 46)

record IsNoOther (b : ℕ) : Type 0 where
  blank : is_blank b ≡ false
  slash : (b == 47) ≡ false
  letter : is_ascii_alphabetic b ≡ false

no_other : (b : ℕ) → BeginsNumber b → IsNoOther b
no_other b (inl h) = record { blank = grind (arith, nat_tests); slash = grind (arith, nat_tests); letter = grind (arith, nat_tests) }
no_other b (inr h) = rw h record { blank = refl; slash = refl; letter = refl }

pub front_number : (place : ℕ) (z : List ℕ) → BeginsNumber (slice_index z 0) → 0 < decimal_length z → front place z ≡ number place z
unfolding front
front_number place z begins some =
    let other = no_other (slice_index z 0) begins in
    let test : nat_lt 0 (decimal_length z) ≡ true = grind (arith, nat_tests) in
    rw (other.blank, other.slash, other.letter, test) refl

-- the first byte of digits before another byte
pub first_digit : (x : List ℕ) (b : ℕ) (rest : List ℕ) → AreDigits x → BeginsNumber b → BeginsNumber (slice_index (x ++ b ∷ rest) 0)
first_digit [] b rest all begins = begins
first_digit (c ∷ x) b rest all begins = inl (and_parts (is_ascii_digit c) (list_all is_ascii_digit x) all).0

pub first_of_digits : (x rest : List ℕ) → AreDigits x → 0 < length x → BeginsNumber (slice_index (x ++ rest) 0)
first_of_digits [] rest all some = absurd (omega arith)
first_of_digits (c ∷ x) rest all some = inl (and_parts (is_ascii_digit c) (list_all is_ascii_digit x) all).0

-- digits alone
whole_reaches : (place : ℕ) (x rest : List ℕ) → AreDigits x → 0 < length x → Reaches (x ++ rest) (length x) (front place (x ++ rest))
whole_reaches place x rest all some =
    let z = x ++ rest in
    let most : length x ≤ decimal_length z = omega (arith, run_most is_ascii_digit x rest all, decimal_whole z) in
    rw (front_number place z (first_of_digits x rest all some) (omega arith)) (number_reaches place (length x) z (omega arith))

-- the exponent's first byte is no digit and no point
pub exponent_first : (x : List ℕ) → IsExponent x → (b : ℕ) × (ys : List ℕ) × (x ≡ b ∷ ys) × (is_ascii_digit b ≡ false) × ((b == 46) ≡ false)
exponent_first [] h = absurd h
exponent_first (e ∷ y) (inl h, digits) = (e, y, refl, rw h refl, rw h refl)
exponent_first (e ∷ y) (inr h, digits) = (e, y, refl, rw h refl, rw h refl)

-- digits, and behind them an exponent
pub exponent_follows : (whole exponent rest : List ℕ) → AreDigits whole → IsExponent exponent → prefix_len is_ascii_digit (whole ++ (exponent ++ rest)) ≡ length whole
exponent_follows whole exponent rest all ends =
    let first = exponent_first exponent ends in
    rw first.2 (run_exact is_ascii_digit whole first.0 (first.1 ++ rest) all first.3)

drop_front : (a b : List ℕ) (n : ℕ) → n ≡ length a → drop n (a ++ b) ≡ b
drop_front a b n same = rw same (drop-append_seam a b)

-- digits with a point and an exponent, or without one
point_len : (before after exponent rest : List ℕ) → AreDigits before → AreDigits after → 0 < length before + length after → (exponent ≡ []) ⊎ IsExponent exponent → length before + 1 + length after + length exponent ≤ decimal_length (before ++ 46 ∷ (after ++ (exponent ++ rest))) + exponent_length (drop (decimal_length (before ++ 46 ∷ (after ++ (exponent ++ rest)))) (before ++ 46 ∷ (after ++ (exponent ++ rest))))
point_len before after exponent rest b a some (inl none) =
    let most = run_most is_ascii_digit after (exponent ++ rest) a in
    let is = decimal_point before (after ++ (exponent ++ rest)) b (omega (arith, most)) in
    let no : length exponent ≡ 0 = rw none refl in
    omega (arith, most, is, no)
point_len before after exponent rest b a some (inr ends) =
    let tail = after ++ (exponent ++ rest) in
    let run = exponent_follows after exponent rest a ends in
    let is : decimal_length (before ++ 46 ∷ tail) ≡ length before + 1 + length after = decimal_point before tail b (omega (arith, run)) ∙ ap (λ n. length before + 1 + n) run in
    let behind : drop (length before + 1 + length after) (before ++ 46 ∷ tail) ≡ exponent ++ rest =
    (let shape : length before + 1 + length after ≡ length before + suc (length after) = omega arith in
    rw shape (drop-append-add before (46 ∷ tail) (suc (length after)) ∙ drop-append_seam after (exponent ++ rest))) in
    rw (is, behind) (omega (arith, exponent_most exponent rest ends))

pub regrouped : (before after exponent rest : List ℕ) → (before ++ 46 ∷ (after ++ exponent)) ++ rest ≡ before ++ 46 ∷ (after ++ (exponent ++ rest))
regrouped before after exponent rest = simp append_assoc

point_reaches : (place : ℕ) (before after exponent rest : List ℕ) → AreDigits before → AreDigits after → 0 < length before + length after → (exponent ≡ []) ⊎ IsExponent exponent → Reaches ((before ++ 46 ∷ (after ++ exponent)) ++ rest) (length (before ++ 46 ∷ (after ++ exponent))) (front place ((before ++ 46 ∷ (after ++ exponent)) ++ rest))
point_reaches place before after exponent rest b a some ends =
    let tail = after ++ (exponent ++ rest) in
    let z = before ++ 46 ∷ tail in
    let most = run_most is_ascii_digit after (exponent ++ rest) a in
    let is = decimal_point before tail b (omega (arith, most)) in
    let len : length (before ++ 46 ∷ (after ++ exponent)) ≡ length before + 1 + length after + length exponent = simp length-append (omega arith) in
    rw (regrouped before after exponent rest, front_number place z (first_digit before 46 tail b (inr refl)) (omega (arith, is)))
    (number_reaches place _ z (omega (arith, len, point_len before after exponent rest b a some ends)))

real_with_point : (place : ℕ) (x rest : List ℕ) → HasPoint x → Reaches (x ++ rest) (length x) (front place (x ++ rest))
real_with_point place x rest h = rw h.is (point_reaches place h.before h.after h.exponent rest h.before_digits h.after_digits h.some h.ends)

exponent_reaches : (place : ℕ) (whole exponent rest : List ℕ) → AreDigits whole → 0 < length whole → IsExponent exponent → Reaches ((whole ++ exponent) ++ rest) (length (whole ++ exponent)) (front place ((whole ++ exponent) ++ rest))
exponent_reaches place whole exponent rest all some ends =
    let z = whole ++ (exponent ++ rest) in
    let first = exponent_first exponent ends in
    let is : decimal_length z ≡ length whole = rw first.2 (decimal_plain whole first.0 (first.1 ++ rest) all first.3 first.4) in
    let behind : drop (decimal_length z) z ≡ exponent ++ rest = drop_front whole (exponent ++ rest) (decimal_length z) is in
    let more : length (whole ++ exponent) ≤ decimal_length z + exponent_length (drop (decimal_length z) z) = rw behind (omega (arith, is, length-append whole exponent, exponent_most exponent rest ends)) in
    rw (append_assoc whole exponent rest, front_number place z (first_of_digits whole (exponent ++ rest) all some) (omega (arith, is)))
    (number_reaches place _ z more)

real_with_exponent : (place : ℕ) (x rest : List ℕ) → HasExponent x → Reaches (x ++ rest) (length x) (front place (x ++ rest))
real_with_exponent place x rest h = rw h.is (exponent_reaches place h.whole h.exponent rest h.digits h.some h.ends)

-- ---- words

word_choice : (z : List ℕ) (t u : Bool) (len place : ℕ) → len ≤ prefix_len is_in_word z → Reaches z len (cond t (Err (LongName place)) (cond u (Ok (Some Pi, prefix_len is_in_word z)) (Ok (Some Word, prefix_len is_in_word z))))
word_choice z true u len place most = most
word_choice z false true len place most = most
word_choice z false false len place most = most

word_reaches : (place len : ℕ) (z : List ℕ) → len ≤ prefix_len is_in_word z → Reaches z len (word place z)
unfolding word
word_reaches place len z most = word_choice z _ _ len place most

record IsLetter (b : ℕ) : Type 0 where
  blank : is_blank b ≡ false
  slash : (b == 47) ≡ false
  in_word : is_in_word b ≡ true

letter_tests : (b : ℕ) → is_ascii_alphabetic b ≡ true → IsLetter b
letter_tests b h = record { blank = grind (arith, nat_tests); slash = grind (arith, nat_tests); in_word = grind (arith, nat_tests) }

pub front_word : (place b : ℕ) (z : List ℕ) → is_ascii_alphabetic b ≡ true → front place (b ∷ z) ≡ word place (b ∷ z)
unfolding front
front_word place b z h = let tests = letter_tests b h in rw (tests.blank, tests.slash, h) refl

words_reach : (place : ℕ) (x rest : List ℕ) → IsWord x → Reaches (x ++ rest) (length x) (front place (x ++ rest))
words_reach place [] rest h = absurd h
words_reach place (b ∷ x) rest h =
    let all : list_all is_in_word (b ∷ x) ≡ true = rw (letter_tests b h.0).in_word h.1 in
    rw (front_word place b (x ++ rest) h.0) (word_reaches place (suc (length x)) (b ∷ (x ++ rest)) (run_most is_in_word (b ∷ x) rest all))

-- ---- texts and signs

quoted_reaches : (place : ℕ) (inside rest : List ℕ) → list_all is_in_quotes inside ≡ true → Reaches (34 ∷ (inside ++ 34 ∷ rest)) (length inside + 2) (front place (34 ∷ (inside ++ 34 ∷ rest)))
unfolding front decimal_length quoted
quoted_reaches place inside rest all =
    let run = run_exact is_in_quotes inside 34 rest all refl in
    let seam = get_or-append_seam inside 34 rest 0 in
    let same : 1 + length inside ≡ suc (length inside) = omega arith in
    rw (run, same, seam) (omega arith)

text_reaches : (place : ℕ) (inside rest : List ℕ) → list_all is_in_quotes inside ≡ true → Reaches ((34 ∷ (inside ++ 34 ∷ [])) ++ rest) (length (34 ∷ (inside ++ 34 ∷ []))) (front place ((34 ∷ (inside ++ 34 ∷ [])) ++ rest))
text_reaches place inside rest all =
    let len : length (34 ∷ (inside ++ 34 ∷ [])) ≡ length inside + 2 = simp length-append (omega arith) in
    rw (len, append_assoc inside (34 ∷ []) rest) (quoted_reaches place inside rest all)

one_or_two : (z : List ℕ) (t : Bool) (first second : Option Kind) → Reaches z 1 (cond t (Ok (first, 2)) (Ok (second, 1)))
one_or_two z true first second = omega arith
one_or_two z false first second = omega arith

minus_reaches : (place : ℕ) (rest : List ℕ) → Reaches (45 ∷ rest) 1 (front place (45 ∷ rest))
unfolding front decimal_length sign one_byte_sign
minus_reaches place rest = one_or_two (45 ∷ rest) _ (Some Arrow) (Some Minus)

one_or_more : (z : List ℕ) (t : Bool) (n : ℕ) (second : Option Kind) → Reaches z 1 (cond t (Ok (None, 1 + n)) (Ok (second, 1)))
one_or_more z true n second = omega arith
one_or_more z false n second = omega arith

slash_reaches : (place : ℕ) (rest : List ℕ) → Reaches (47 ∷ rest) 1 (front place (47 ∷ rest))
unfolding front decimal_length sign one_byte_sign
slash_reaches place rest = one_or_more (47 ∷ rest) _ (prefix_len is_in_line rest) (Some Slash)

token_reaches : (place : ℕ) (kind : Kind) (x rest : List ℕ) → Spells kind x → Reaches (x ++ rest) (length x) (front place (x ++ rest))
unfolding front decimal_length sign one_byte_sign
token_reaches place Word x rest h = words_reach place x rest h.0
token_reaches place Pi x rest h = rw h (words_reach place (codes "pi") rest (refl, refl))
token_reaches place (Whole n) x rest h = whole_reaches place x rest h.0 h.1
token_reaches place Real x rest (inl h) = real_with_point place x rest h
token_reaches place Real x rest (inr h) = real_with_exponent place x rest h
token_reaches place Text x rest h = rw h.is (text_reaches place h.inside rest h.bytes)
token_reaches place Semicolon x rest h = rw h (omega arith)
token_reaches place Comma x rest h = rw h (omega arith)
token_reaches place LeftParen x rest h = rw h (omega arith)
token_reaches place RightParen x rest h = rw h (omega arith)
token_reaches place LeftBracket x rest h = rw h (omega arith)
token_reaches place RightBracket x rest h = rw h (omega arith)
token_reaches place LeftBrace x rest h = rw h (omega arith)
token_reaches place RightBrace x rest h = rw h (omega arith)
token_reaches place Plus x rest h = rw h (omega arith)
token_reaches place Minus x rest h = rw h (minus_reaches place rest)
token_reaches place Star x rest h = rw h (omega arith)
token_reaches place Slash x rest h = rw h (slash_reaches place rest)
token_reaches place Caret x rest h = rw h (omega arith)
token_reaches place Arrow x rest h = rw h (omega arith)
token_reaches place Equal x rest h = rw h (omega arith)

-- ---- gaps

blanks_reach : (place : ℕ) (x rest : List ℕ) → AreBlanks x → Reaches (x ++ rest) (length x) (front place (x ++ rest))
unfolding front
blanks_reach place [] rest h = absurd (omega (arith, h.1))
blanks_reach place (b ∷ x) rest h =
    let parts = and_parts (is_blank b) (list_all is_blank x) h.0 in
    rw parts.0 (omega (arith, run_most is_blank x rest parts.1))

comment_reaches : (place : ℕ) (inside rest : List ℕ) → list_all is_in_line inside ≡ true → Reaches (47 ∷ 47 ∷ (inside ++ rest)) (length (47 ∷ 47 ∷ inside)) (front place (47 ∷ 47 ∷ (inside ++ rest)))
unfolding front
comment_reaches place inside rest all = run_most is_in_line (47 ∷ 47 ∷ inside) rest all

pub reaches : (place : ℕ) (what : Option Kind) (x rest : List ℕ) → IsTextOf what x → Reaches (x ++ rest) (length x) (front place (x ++ rest))
reaches place (Some kind) x rest h = token_reaches place kind x rest h
reaches place None x rest (inl h) = blanks_reach place x rest h
reaches place None x rest (inr h) = rw h.is (comment_reaches place h.inside rest h.bytes)
