-- What is found at the front of a text that begins with a token or a gap and goes on with a byte that does not belong to it.
use Rattle.std.proofs.Common.{◌≡◌, ℕ, suc, ◌+◌, ◌<◌, ◌≤◌, ◌⊎◌, inl, inr, Bool, true, false, ◌||◌, List, [], ◌∷◌, ◌++◌, length, take, drop, refl, ◌∙◌, ap, append_assoc, length-append, arith, ◌==◌, ◌≢◌}
use Rattle.std.specs.Prelude.{Ok, Option, Some, None, nat_lt, codes, slice_index}
use Rattle.std.specs.Char.{is_ascii_digit, is_ascii_alphabetic}
use Rattle.std.specs.List.{prefix_len, list_all}
use Rattle.std.specs.Str.{bytes_eq}
use Rattle.std.specs.Str.Parse.{digits_value}
use Rattle.std.proofs.lemmas.Bool.{and_parts, false_from_ne_true}
use Rattle.std.proofs.lemmas.Bool.Decides.{nat_tests}
use Rattle.std.proofs.lemmas.Slice.Eq.{bytes_eq-Decides}
use Rattle.std.proofs.lemmas.List.{get_or-append-add}
use Rattle.std.proofs.Math.Seq.{take-append_seam, drop-append_seam, drop-append-add, get_or-append_seam}
use Rattle.qz_circ.specs.declared.token.Kind.{Kind}
use Rattle.qz_circ.specs.declared.token.Kind.TheVariants.{Word, Pi, Whole, Real, Text, Semicolon, Comma, LeftParen, RightParen, LeftBracket, RightBracket, LeftBrace, RightBrace, Plus, Minus, Star, Slash, Caret, Arrow, Equal}
use Rattle.qz_circ.specs.Tokens.{is_blank, is_in_word, is_in_quotes, digits, word, decimal_length, exponent_length, sign_length, number, quoted, one_byte_sign, sign, front}
use Rattle.qz_circ.specs.TokenTexts.{AreDigits, IsExponent, Spells, AreBlanks, IsWithinLimit}
use Rattle.qz_lex.proofs.LongestLemmas.{run_exact, decimal_point, decimal_plain, is_e, is_sign, is_no_sign, front_number, first_digit, first_of_digits, exponent_first, exponent_follows, regrouped, front_word}

-- a byte with which a number could go on
abbrev is_in_number : ℕ → Bool
is_in_number b = is_ascii_digit b || b == 46 || b == 101 || b == 69

-- a byte with which a token of this kind, or a gap, could go on
abbrev pub goes_on : Option Kind → ℕ → Bool
goes_on None b = is_blank b
goes_on (Some Word) b = is_in_word b
goes_on (Some Pi) b = is_in_word b
goes_on (Some (Whole n)) b = is_in_number b
goes_on (Some Real) b = is_in_number b
goes_on (Some Minus) b = b == 62
goes_on (Some Slash) b = b == 47
goes_on (Some kind) b = false

-- the text is one of a token of this kind and within its limit, or of a gap without comments
abbrev pub Fits : Option Kind → List ℕ → Type 0
Fits (Some kind) x = Spells kind x × IsWithinLimit kind (length x)
Fits None x = AreBlanks x

-- ---- runs of bytes of one class

run_ends : (p : ℕ → Bool) (x rest : List ℕ) → list_all p x ≡ true → p (slice_index rest 0) ≡ false → prefix_len p (x ++ rest) ≡ length x
run_ends p [] [] all ends = refl
run_ends p [] (b ∷ rest) all ends = run_exact p [] b rest all ends
run_ends p (c ∷ x) rest all ends =
    let parts = and_parts (p c) (list_all p x) all in
    let more = run_ends p x rest parts.1 ends in
    rw (parts.0, more) (omega arith)

gap_length : (place : ℕ) (z : List ℕ) → is_blank (slice_index z 0) ≡ true → front place z ≡ Ok (None, prefix_len is_blank z)
unfolding front
gap_length place z blank = rw blank refl

gap_front : (place : ℕ) (x rest : List ℕ) → Fits None x → is_blank (slice_index rest 0) ≡ false → front place (x ++ rest) ≡ Ok (None, length x)
gap_front place [] rest fits ends = absurd (omega arith)
gap_front place (b ∷ x) rest fits ends =
    gap_length place (b ∷ x ++ rest) (and_parts (is_blank b) (list_all is_blank x) fits.0).0 ∙ ap (λ n. Ok (None, n)) (run_ends is_blank (b ∷ x) rest fits.0 ends)

-- ---- words

in_word : (b : ℕ) → is_ascii_alphabetic b ≡ true → is_in_word b ≡ true
in_word b h = grind (arith, nat_tests)

at_most : (a b : ℕ) → a ≤ b → nat_lt b a ≡ false
at_most a b h = grind (arith, nat_tests)

more_than : (a b : ℕ) → b < a → nat_lt b a ≡ true
more_than a b h = grind (arith, nat_tests)

word_length : (place : ℕ) (x z : List ℕ) → prefix_len is_in_word z ≡ length x → take (length x) z ≡ x → length x ≤ 64 → x ≢ codes "pi" → word place z ≡ Ok (Some Word, length x)
unfolding word
word_length place x z run taken short other =
    let differs : bytes_eq x (codes "pi") ≡ false = false_from_ne_true (bytes_eq x (codes "pi")) (λ h. other ((bytes_eq-Decides x (codes "pi")).0 h)) in
    rw (run, at_most (length x) 64 short, taken, differs) refl

word_front : (place : ℕ) (x rest : List ℕ) → Fits (Some Word) x → is_in_word (slice_index rest 0) ≡ false → front place (x ++ rest) ≡ Ok (Some Word, length x)
word_front place [] rest fits ends = absurd fits.0.0
word_front place (b ∷ x) rest fits ends =
    let all : list_all is_in_word (b ∷ x) ≡ true = rw (in_word b fits.0.0.0) fits.0.0.1 in
    front_word place b (x ++ rest) fits.0.0.0 ∙
    word_length place (b ∷ x) (b ∷ (x ++ rest)) (run_ends is_in_word (b ∷ x) rest all ends) (take-append_seam (b ∷ x) rest) fits.1 fits.0.1

pi_length : (place : ℕ) (z : List ℕ) → prefix_len is_in_word z ≡ 2 → take 2 z ≡ codes "pi" → word place z ≡ Ok (Some Pi, 2)
unfolding word
pi_length place z run taken = rw (run, taken) refl

pi_front : (place : ℕ) (rest : List ℕ) → is_in_word (slice_index rest 0) ≡ false → front place (codes "pi" ++ rest) ≡ Ok (Some Pi, 2)
pi_front place rest ends =
    front_word place 112 (105 ∷ rest) refl ∙ pi_length place (codes "pi" ++ rest) (run_ends is_in_word (codes "pi") rest refl ends) refl

-- ---- numbers

-- the tests of a byte with which no number could go on
record IsBehindNumber (b : ℕ) : Type 0 where
  digit : is_ascii_digit b ≡ false
  point : (b == 46) ≡ false
  letter : ((b == 101) || (b == 69)) ≡ false

behind_number : (b : ℕ) → is_in_number b ≡ false → IsBehindNumber b
behind_number b h = record { digit = grind (arith, nat_tests); point = grind (arith, nat_tests); letter = grind (arith, nat_tests) }

no_exponent : (rest : List ℕ) → is_in_number (slice_index rest 0) ≡ false → exponent_length rest ≡ 0
unfolding exponent_length
no_exponent rest ends = rw (behind_number (slice_index rest 0) ends).letter refl

-- the byte behind a text
get_or_behind : (x rest : List ℕ) → slice_index (x ++ rest) (length x) ≡ slice_index rest 0
get_or_behind x rest = let same : length x ≡ length x + 0 = omega arith in rw same (get_or-append-add x rest 0 0)

-- digits behind which no number goes on
digits_length : (x rest : List ℕ) → AreDigits x → is_in_number (slice_index rest 0) ≡ false → decimal_length (x ++ rest) ≡ length x
unfolding decimal_length
digits_length x rest all ends =
    let tests = behind_number (slice_index rest 0) ends in
    rw (run_ends is_ascii_digit x rest all tests.digit, get_or_behind x rest, tests.point) refl

whole_length : (place : ℕ) (x z : List ℕ) → digits z ≡ length x → decimal_length z ≡ length x → exponent_length (drop (length x) z) ≡ 0 → take (length x) z ≡ x → length x ≤ 18 → number place z ≡ Ok (Some (Whole (digits_value 10 x)), length x)
unfolding number
whole_length place x z run len none taken short =
    let same : length x + 0 ≡ length x = omega arith in
    rw (run, len, none, same, at_most (length x) (length x) (omega arith), at_most (length x) 18 short, taken) refl

whole_front : (place n : ℕ) (x rest : List ℕ) → Fits (Some (Whole n)) x → is_in_number (slice_index rest 0) ≡ false → front place (x ++ rest) ≡ Ok (Some (Whole n), length x)
whole_front place n x rest fits ends =
    let run = run_ends is_ascii_digit x rest fits.0.0 (behind_number (slice_index rest 0) ends).digit in
    let len = digits_length x rest fits.0.0 ends in
    let none : exponent_length (drop (length x) (x ++ rest)) ≡ 0 = rw (drop-append_seam x rest) (no_exponent rest ends) in
    rw (front_number place (x ++ rest) (first_of_digits x rest fits.0.0 fits.0.1) (omega arith), fits.0.2)
    (whole_length place x (x ++ rest) run len none (take-append_seam x rest) fits.1)

-- an exponent behind which no number goes on
exponent_by : (z : List ℕ) (s n : ℕ) → ((slice_index z 0 == 101) || (slice_index z 0 == 69)) ≡ true → sign_length (slice_index z 1) ≡ s → digits (drop (1 + s) z) ≡ n → 0 < n → exponent_length z ≡ 1 + s + n
unfolding exponent_length
exponent_by z s n letter sign run some = rw (letter, sign, run, more_than n 0 some) refl

exponent_exact : (x rest : List ℕ) → IsExponent x → is_in_number (slice_index rest 0) ≡ false → exponent_length (x ++ rest) ≡ length x
exponent_exact [] rest h ends = absurd h
exponent_exact (e ∷ []) rest h ends = absurd h.1
exponent_exact (e ∷ b ∷ y) rest (letter, inl all) ends =
    let digit = (and_parts (is_ascii_digit b) (list_all is_ascii_digit y) all).0 in
    let run = run_ends is_ascii_digit (b ∷ y) rest all (behind_number (slice_index rest 0) ends).digit in
    exponent_by (e ∷ b ∷ (y ++ rest)) 0 (suc (length y)) (is_e e letter) (is_no_sign b digit) run (omega arith) ∙ omega arith
exponent_exact (e ∷ b ∷ y) rest (letter, inr signed) ends =
    let run = run_ends is_ascii_digit y rest signed.1 (behind_number (slice_index rest 0) ends).digit in
    exponent_by (e ∷ b ∷ (y ++ rest)) 1 (length y) (is_e e letter) (is_sign b signed.0) run signed.2 ∙ omega arith

real_length : (place d e : ℕ) (z : List ℕ) → decimal_length z ≡ d → exponent_length (drop d z) ≡ e → digits z < d + e → number place z ≡ Ok (Some Real, d + e)
unfolding number
real_length place d e z len ends more = rw (len, ends, more_than (d + e) (digits z) more) refl

-- digits, and behind them perhaps an exponent
digits_behind : (after exponent rest : List ℕ) → AreDigits after → (exponent ≡ []) ⊎ IsExponent exponent → is_in_number (slice_index rest 0) ≡ false → digits (after ++ (exponent ++ rest)) ≡ length after
digits_behind after exponent rest all (inl none) ends = rw none (run_ends is_ascii_digit after rest all (behind_number (slice_index rest 0) ends).digit)
digits_behind after exponent rest all (inr some) ends = exponent_follows after exponent rest all some

exponent_behind : (exponent rest : List ℕ) → (exponent ≡ []) ⊎ IsExponent exponent → is_in_number (slice_index rest 0) ≡ false → exponent_length (exponent ++ rest) ≡ length exponent
exponent_behind exponent rest (inl none) ends = rw none (no_exponent rest ends)
exponent_behind exponent rest (inr some) ends = exponent_exact exponent rest some ends

point_front : (place : ℕ) (before after exponent rest : List ℕ) → AreDigits before → AreDigits after → 0 < length before + length after → (exponent ≡ []) ⊎ IsExponent exponent → is_in_number (slice_index rest 0) ≡ false → front place ((before ++ 46 ∷ (after ++ exponent)) ++ rest) ≡ Ok (Some Real, length (before ++ 46 ∷ (after ++ exponent)))
point_front place before after exponent rest b a some has ends =
    let tail = after ++ (exponent ++ rest) in
    let z = before ++ 46 ∷ tail in
    let run = digits_behind after exponent rest a has ends in
    let is : decimal_length z ≡ length before + 1 + length after = decimal_point before tail b (omega (arith, run)) ∙ ap (λ n. length before + 1 + n) run in
    let shape : length before + 1 + length after ≡ length before + suc (length after) = omega arith in
    let behind : drop (length before + 1 + length after) z ≡ exponent ++ rest = rw shape (drop-append-add before (46 ∷ tail) (suc (length after)) ∙ drop-append_seam after (exponent ++ rest)) in
    let more : exponent_length (drop (length before + 1 + length after) z) ≡ length exponent = rw behind (exponent_behind exponent rest has ends) in
    let digits_before : digits z ≡ length before = run_exact is_ascii_digit before 46 tail b refl in
    let len : length (before ++ 46 ∷ (after ++ exponent)) ≡ length before + 1 + length after + length exponent = simp length-append (omega arith) in
    rw (regrouped before after exponent rest, front_number place z (first_digit before 46 tail b (inr refl)) (omega (arith, is)), len)
    (real_length place (length before + 1 + length after) (length exponent) z is more (omega (arith, digits_before)))

exponent_front : (place : ℕ) (whole exponent rest : List ℕ) → AreDigits whole → 0 < length whole → IsExponent exponent → is_in_number (slice_index rest 0) ≡ false → front place ((whole ++ exponent) ++ rest) ≡ Ok (Some Real, length (whole ++ exponent))
exponent_front place whole exponent rest all some has ends =
    let z = whole ++ (exponent ++ rest) in
    let first = exponent_first exponent has in
    let is : decimal_length z ≡ length whole = rw first.2 (decimal_plain whole first.0 (first.1 ++ rest) all first.3 first.4) in
    let more : exponent_length (drop (length whole) z) ≡ length exponent = rw (drop-append_seam whole (exponent ++ rest)) (exponent_exact exponent rest has ends) in
    let longer : 0 < length exponent = rw first.2 (omega arith) in
    let run = exponent_follows whole exponent rest all has in
    rw (append_assoc whole exponent rest, front_number place z (first_of_digits whole (exponent ++ rest) all some) (omega (arith, is)), length-append whole exponent)
    (real_length place (length whole) (length exponent) z is more (omega (arith, run)))

real_front : (place : ℕ) (x rest : List ℕ) → Fits (Some Real) x → is_in_number (slice_index rest 0) ≡ false → front place (x ++ rest) ≡ Ok (Some Real, length x)
real_front place x rest (inl h, limit) ends = rw h.is (point_front place h.before h.after h.exponent rest h.before_digits h.after_digits h.some h.ends ends)
real_front place x rest (inr h, limit) ends = rw h.is (exponent_front place h.whole h.exponent rest h.digits h.some h.ends ends)

-- ---- texts and signs

quoted_front : (place : ℕ) (inside rest : List ℕ) → list_all is_in_quotes inside ≡ true → front place (34 ∷ (inside ++ 34 ∷ rest)) ≡ Ok (Some Text, length inside + 2)
unfolding front decimal_length quoted
quoted_front place inside rest all =
    let run = run_exact is_in_quotes inside 34 rest all refl in
    let seam = get_or-append_seam inside 34 rest 0 in
    let same : 1 + length inside ≡ suc (length inside) = omega arith in
    let end : suc (length inside) + 1 ≡ length inside + 2 = omega arith in
    rw (run, same, seam, end) refl

text_front : (place : ℕ) (inside rest : List ℕ) → list_all is_in_quotes inside ≡ true → front place ((34 ∷ (inside ++ 34 ∷ [])) ++ rest) ≡ Ok (Some Text, length (34 ∷ (inside ++ 34 ∷ [])))
text_front place inside rest all =
    let len : length (34 ∷ (inside ++ 34 ∷ [])) ≡ length inside + 2 = simp length-append (omega arith) in
    rw (len, append_assoc inside (34 ∷ []) rest) (quoted_front place inside rest all)

minus_front : (place : ℕ) (rest : List ℕ) → (slice_index rest 0 == 62) ≡ false → front place (45 ∷ rest) ≡ Ok (Some Minus, 1)
unfolding front decimal_length sign one_byte_sign
minus_front place rest ends = rw ends refl

slash_front : (place : ℕ) (rest : List ℕ) → (slice_index rest 0 == 47) ≡ false → front place (47 ∷ rest) ≡ Ok (Some Slash, 1)
unfolding front decimal_length sign one_byte_sign
slash_front place rest ends = rw ends refl

-- a token or a gap is taken whole, and nothing more
pub exact_front : (place : ℕ) (kind : Option Kind) (x rest : List ℕ) → Fits kind x → goes_on kind (slice_index rest 0) ≡ false → front place (x ++ rest) ≡ Ok (kind, length x)
unfolding front decimal_length sign one_byte_sign
exact_front place None x rest fits ends = gap_front place x rest fits ends
exact_front place (Some Word) x rest fits ends = word_front place x rest fits ends
exact_front place (Some Pi) x rest fits ends = rw fits.0 (pi_front place rest ends)
exact_front place (Some (Whole n)) x rest fits ends = whole_front place n x rest fits ends
exact_front place (Some Real) x rest fits ends = real_front place x rest fits ends
exact_front place (Some Text) x rest fits ends = rw fits.0.is (text_front place fits.0.inside rest fits.0.bytes)
exact_front place (Some Semicolon) x rest fits ends = rw fits.0 refl
exact_front place (Some Comma) x rest fits ends = rw fits.0 refl
exact_front place (Some LeftParen) x rest fits ends = rw fits.0 refl
exact_front place (Some RightParen) x rest fits ends = rw fits.0 refl
exact_front place (Some LeftBracket) x rest fits ends = rw fits.0 refl
exact_front place (Some RightBracket) x rest fits ends = rw fits.0 refl
exact_front place (Some LeftBrace) x rest fits ends = rw fits.0 refl
exact_front place (Some RightBrace) x rest fits ends = rw fits.0 refl
exact_front place (Some Plus) x rest fits ends = rw fits.0 refl
exact_front place (Some Minus) x rest fits ends = rw fits.0 (minus_front place rest ends)
exact_front place (Some Star) x rest fits ends = rw fits.0 refl
exact_front place (Some Slash) x rest fits ends = rw fits.0 (slash_front place rest ends)
exact_front place (Some Caret) x rest fits ends = rw fits.0 refl
exact_front place (Some Arrow) x rest fits ends = rw fits.0 refl
exact_front place (Some Equal) x rest fits ends = rw fits.0 refl
