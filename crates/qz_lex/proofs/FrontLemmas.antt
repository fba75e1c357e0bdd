-- What is taken at the front of a text is that of a token of its kind or of a gap, and the longest that fits.
use Rattle.std.proofs.Common.{◌≡◌, ℕ, zero, suc, ◌+◌, ◌<◌, ◌≤◌, ◌⊎◌, inl, inr, Bool, true, false, ◌&&◌, ◌||◌, cond, List, [], ◌∷◌, ◌++◌, length, take, drop, refl, sym, ◌∙◌, ap, subst, append_assoc, arith, ◌==◌, ◌≢◌}
use Rattle.std.specs.Prelude.{Ok, Err, Option, Some, None, Result, nat_lt, codes, slice_index}
use Rattle.std.specs.Char.{is_ascii_digit, is_ascii_alphabetic}
use Rattle.std.specs.List.{prefix_len, list_all}
use Rattle.std.specs.Str.{bytes_eq}
use Rattle.std.specs.Str.Parse.{digits_value}
use Rattle.std.proofs.lemmas.Bool.{and_parts}
use Rattle.std.proofs.lemmas.Bool.Decides.{nat_tests}
use Rattle.std.proofs.lemmas.List.Sums.{prefix_len-le-length}
use Rattle.std.proofs.Math.Seq.{take-add}
use Rattle.std.proofs.lemmas.List.{length-take-le, length-drop}
use Rattle.std.proofs.lemmas.Slice.Eq.{bytes_eq-Decides}
use Rattle.qz_circ.specs.declared.token.Kind.{Kind}
use Rattle.qz_circ.specs.declared.fault.LexFault.{LexFault}
use Rattle.qz_circ.specs.declared.fault.LexFault.TheVariants.{BadByte, LongName, BigNumber, Memory}
use Rattle.qz_circ.specs.declared.token.Kind.TheVariants.{Word, Whole, Arrow, Equal, Semicolon, Comma, LeftParen, RightParen, LeftBracket, RightBracket, LeftBrace, RightBrace, Plus, Minus, Star, Slash, Caret}
use Rattle.qz_circ.specs.ProgramLimits.{longest_word, most_digits}
use Rattle.qz_circ.specs.Tokens.{Front, is_blank, is_in_line, is_in_word, is_in_quotes, digits, word, decimal_length, exponent_length, sign_length, number, quoted, one_byte_sign, one_byte_token, sign, front}
use Rattle.qz_circ.specs.TokenTexts.{AreDigits, AreSignedDigits, IsExponent, HasPoint, HasExponent, IsWord, Spells, IsTextOf, IsLongest, IsWithinLimit, IsRight}
use Rattle.qz_lex.proofs.LongestLemmas.{Reaches, reaches}

-- ---- what is found

-- a number of bytes that the text has are a token of this kind, or a gap
record IsTaken (what : Option Kind) (n : ℕ) (z : List ℕ) : Type 0 where
  within : n ≤ length z
  fits : IsTextOf what (take n z)

-- what is right at the front of a text but for being the longest, with all bytes of a name and of a number past its limit
abbrev IsFound : ℕ → List ℕ → Result Front LexFault → Type 0
IsFound place z (Ok (Some kind, n)) = IsTaken (Some kind) n z × IsWithinLimit kind n
IsFound place z (Ok (None, n)) = IsTaken None n z
IsFound place z (Err (LongName p)) = (p ≡ place) × IsTaken (Some Word) (prefix_len is_in_word z) z × (longest_word < prefix_len is_in_word z)
IsFound place z (Err (BigNumber p)) = (p ≡ place) × ((value : ℕ) × IsTaken (Some (Whole value)) (digits z) z × (most_digits < digits z))
IsFound place z (Err (BadByte p)) = p ≡ place
IsFound place z (Err Memory) = ⊥

longest_of : (place : ℕ) (what : Option Kind) (n : ℕ) (z : List ℕ) (r : Result Front LexFault) → ((len : ℕ) → Reaches z len r → len ≤ n) → IsTaken what n z → r ≡ front place z → IsLongest what n z
longest_of place what n z r most taken is = record {
  within = taken.within;
  fits = taken.fits;
  longest = λ other x rest begins fits. most (length x) (subst (λ y. Reaches y (length x) r) (sym begins) (rw is (rw begins (reaches place other x rest fits))));
}

all_right : (place : ℕ) (z : List ℕ) (r : Result Front LexFault) → 0 < length z → IsFound place z r → r ≡ front place z → IsRight place z r
all_right place z (Ok (Some kind, n)) some found is = (longest_of place (Some kind) n z (Ok (Some kind, n)) (λ len h. h) found.0 is, found.1)
all_right place z (Ok (None, n)) some found is = longest_of place None n z (Ok (None, n)) (λ len h. h) found is
all_right place z (Err (LongName p)) some found is = (found.0, (prefix_len is_in_word z, longest_of place (Some Word) _ z (Err (LongName p)) (λ len h. h) found.1 is, found.2))
all_right place z (Err (BigNumber p)) some found is = (found.0, (digits z, found.1.0, longest_of place (Some (Whole found.1.0)) _ z (Err (BigNumber p)) (λ len h. h) found.1.1 is, found.1.2))
all_right place z (Err (BadByte p)) some found is = (
  found,
  some,
  λ what x rest begins fits. (
      let there = subst (λ y. Reaches (x ++ rest) (length x) (front place y)) (sym begins) (reaches place what x rest fits) in
      let reached : Reaches (x ++ rest) (length x) (Err (BadByte p)) = subst (λ r. Reaches (x ++ rest) (length x) r) (sym is) there in
      reached),
)
all_right place z (Err Memory) some found is = found

-- ---- choices

-- which way a choice went
cond_cases : {A : Type 0} (t : Bool) (x y : A) → ((t ≡ true) × (cond t x y ≡ x)) ⊎ ((t ≡ false) × (cond t x y ≡ y))
cond_cases true x y = inl (refl, refl)
cond_cases false x y = inr (refl, refl)

-- what holds of both answers of a choice
found_either : (place : ℕ) (z : List ℕ) (t : Bool) (x y : Result Front LexFault) → (t ≡ true → IsFound place z x) → (t ≡ false → IsFound place z y) → IsFound place z (cond t x y)
found_either place z true x y yes_ no_ = yes_ refl
found_either place z false x y yes_ no_ = no_ refl

equal_by_test : (a b : ℕ) → (a == b) ≡ true → a ≡ b
equal_by_test a b h = grind (arith, nat_tests)

less_by_test : (a b : ℕ) → nat_lt a b ≡ true → a < b
less_by_test a b h = grind (arith, nat_tests)

at_most_by_test : (a b : ℕ) → nat_lt a b ≡ false → b ≤ a
at_most_by_test a b h = grind (arith, nat_tests)

either_by_test : (e a b : ℕ) → ((e == a) || (e == b)) ≡ true → (e ≡ a) ⊎ (e ≡ b)
either_by_test e a b h = grind (arith, nat_tests)

-- ---- runs of bytes of one class

run_step : (p : ℕ → Bool) (b : ℕ) (z : List ℕ) (t : Bool) → p b ≡ t → list_all p (take (prefix_len p z) z) ≡ true → list_all p (take (cond t (1 + prefix_len p z) 0) (b ∷ z)) ≡ true
run_step p b z true is all =
    let same : 1 + prefix_len p z ≡ suc (prefix_len p z) = omega arith in
    rw (same, is, all) refl
run_step p b z false is all = refl

-- the bytes that a run counts are of its class
run_all : (p : ℕ → Bool) (z : List ℕ) → list_all p (take (prefix_len p z) z) ≡ true
run_all p [] = refl
run_all p (b ∷ z) = run_step p b z (p b) refl (run_all p z)

run_len : (p : ℕ → Bool) (z : List ℕ) → length (take (prefix_len p z) z) ≡ prefix_len p z
run_len p z = length-take-le (prefix_len p z) z (prefix_len-le-length p z)

get_or_nil : (n : ℕ) → slice_index [] n ≡ 0
get_or_nil zero = refl
get_or_nil (suc n) = refl

-- the byte at a place that isn't past the end
one_at : (z : List ℕ) (n b : ℕ) → slice_index z n ≡ b → 0 < b → take 1 (drop n z) ≡ b ∷ []
one_at [] n b is some = absurd (omega (arith, get_or_nil n))
one_at (c ∷ z) zero b is some = rw is refl
one_at (c ∷ z) (suc n) b is some = one_at z n b is some

-- ---- numbers

signed_digits : (x : List ℕ) → AreDigits x → 0 < length x → AreSignedDigits x
signed_digits [] all some = absurd (omega arith)
signed_digits (b ∷ x) all some = inl all

-- whether a byte is a sign
sign_cases : (b : ℕ) → (((b ≡ 43) ⊎ (b ≡ 45)) × (sign_length b ≡ 1)) ⊎ (sign_length b ≡ 0)
sign_cases b = elim (cond_cases {A = ℕ} ((b == 43) || (b == 45)) 1 0) [ inl h ↦ inl (either_by_test b 43 45 h.0, h.1) | inr h ↦ inr h.1 ]

signed_by : (b : ℕ) (y : List ℕ) (s : ℕ) → ((b ≡ 43) ⊎ (b ≡ 45)) → s ≡ 1 → 0 < digits (drop s (b ∷ y)) → AreSignedDigits (take (s + digits (drop s (b ∷ y))) (b ∷ y))
signed_by b y s sign is some =
    let found : 0 < digits y = rw is at some in
    let len = run_len is_ascii_digit y in
    let same : 1 + digits y ≡ suc (digits y) = omega arith in
    rw (is, same) (inr (sign, run_all is_ascii_digit y, omega (arith, len)))

unsigned_by : (b : ℕ) (y : List ℕ) (s : ℕ) → s ≡ 0 → 0 < digits (drop s (b ∷ y)) → AreSignedDigits (take (s + digits (drop s (b ∷ y))) (b ∷ y))
unsigned_by b y s is some =
    let found : 0 < digits (b ∷ y) = rw is at some in
    let len = run_len is_ascii_digit (b ∷ y) in
    let same : 0 + digits (b ∷ y) ≡ digits (b ∷ y) = omega arith in
    rw (is, same) (signed_digits (take (digits (b ∷ y)) (b ∷ y)) (run_all is_ascii_digit (b ∷ y)) (omega (arith, len)))

add_to_suc : (a b : ℕ) → suc a + b ≡ suc (a + b)
add_to_suc a b = omega arith

signed_tail : (b : ℕ) (y : List ℕ) → 0 < digits (drop (sign_length b) (b ∷ y)) → AreSignedDigits (take (sign_length b + digits (drop (sign_length b) (b ∷ y))) (b ∷ y))
signed_tail b y some = elim (sign_cases b) [
  | inl h ↦ signed_by b y (sign_length b) h.0 h.1 some
  | inr h ↦ unsigned_by b y (sign_length b) h some
]

exponent_cases : (e b : ℕ) (y : List ℕ) → (exponent_length (e ∷ b ∷ y) ≡ 0) ⊎ (((e ≡ 101) ⊎ (e ≡ 69)) × (0 < digits (drop (1 + sign_length b) (e ∷ b ∷ y))) × (exponent_length (e ∷ b ∷ y) ≡ 1 + sign_length b + digits (drop (1 + sign_length b) (e ∷ b ∷ y))))
unfolding exponent_length
exponent_cases e b y =
    let count = digits (drop (1 + sign_length b) (e ∷ b ∷ y)) in
    let letter = (e == 101) || (e == 69) in
    elim (cond_cases {A = ℕ} (letter && nat_lt 0 count) (1 + sign_length b + count) 0) [
      | inl h ↦ (let parts = and_parts letter (nat_lt 0 count) h.0 in inr (either_by_test e 101 69 parts.0, less_by_test 0 count parts.1, h.1))
      | inr h ↦ inl h.1
    ]

exponent_found : (e b n : ℕ) (y : List ℕ) → ((e ≡ 101) ⊎ (e ≡ 69)) → 0 < digits (drop (1 + sign_length b) (e ∷ b ∷ y)) → n ≡ 1 + sign_length b + digits (drop (1 + sign_length b) (e ∷ b ∷ y)) → IsExponent (take n (e ∷ b ∷ y))
exponent_found e b n y letter some is =
    let front : 1 + sign_length b ≡ suc (sign_length b) = omega arith in
    let found : 0 < digits (drop (sign_length b) (b ∷ y)) = rw front at some in
    let len : n ≡ suc (sign_length b + digits (drop (sign_length b) (b ∷ y))) = (rw front at is) ∙ add_to_suc (sign_length b) (digits (drop (sign_length b) (b ∷ y))) in
    rw len (letter, signed_tail b y found)

never : (t : Bool) (n : ℕ) → cond (t && false) n 0 ≡ 0
never true n = refl
never false n = refl

-- an exponent stands at the front, or has no bytes
exponent_at : (z : List ℕ) → (exponent_length z ≡ 0) ⊎ IsExponent (take (exponent_length z) z)
unfolding exponent_length
exponent_at [] = inl refl
exponent_at (e ∷ []) = inl (never ((e == 101) || (e == 69)) _)
exponent_at (e ∷ b ∷ y) = elim (exponent_cases e b y) [ inl none ↦ inl none | inr h ↦ inr (exponent_found e b _ y h.0 h.1 h.2) ]

decimal_cases : (z : List ℕ) → ((slice_index z (digits z) ≡ 46) × (0 < digits z + digits (drop (digits z + 1) z)) × (decimal_length z ≡ digits z + 1 + digits (drop (digits z + 1) z))) ⊎ (decimal_length z ≡ digits z)
unfolding decimal_length
decimal_cases z =
    let whole = digits z in
    let after = digits (drop (whole + 1) z) in
    let point = slice_index z whole == 46 in
    elim (cond_cases {A = ℕ} (point && nat_lt 0 (whole + after)) (whole + 1 + after) whole) [
      | inl h ↦ (let parts = and_parts point (nat_lt 0 (whole + after)) h.0 in inl (equal_by_test (slice_index z whole) 46 parts.0, less_by_test 0 (whole + after) parts.1, h.1))
      | inr h ↦ inr h.1
    ]

none_taken : (n : ℕ) (z : List ℕ) → n ≡ 0 → take n z ≡ []
none_taken n z none = rw none refl

joined : (a b c : List ℕ) → ((a ++ 46 ∷ []) ++ b) ++ c ≡ a ++ 46 ∷ (b ++ c)
joined a b c = simp append_assoc

with_point : (z : List ℕ) (whole after e : ℕ) → whole ≡ digits z → after ≡ digits (drop (whole + 1) z) → slice_index z whole ≡ 46 → 0 < whole + after → (e ≡ 0) ⊎ IsExponent (take e (drop (whole + 1 + after) z)) → HasPoint (take (whole + 1 + after + e) z)
with_point z whole after e is_whole is_after point some ends =
    let before = take whole z in
    let decimals = take after (drop (whole + 1) z) in
    let exponent = take e (drop (whole + 1 + after) z) in
    let all_before : AreDigits before = rw is_whole (run_all is_ascii_digit z) in
    let all_after : AreDigits decimals = rw is_after (run_all is_ascii_digit (drop (whole + 1) z)) in
    let len_before : length before ≡ whole = rw is_whole (run_len is_ascii_digit z) in
    let len_after : length decimals ≡ after = rw is_after (run_len is_ascii_digit (drop (whole + 1) z)) in
    let dot = one_at z whole 46 point (omega arith) in
    record {
      before = before;
      after = decimals;
      exponent = exponent;
      is = take-add (whole + 1 + after) e z ∙ ap (λ x. x ++ exponent) (take-add (whole + 1) after z ∙ ap (λ x. x ++ decimals) (take-add whole 1 z ∙ ap (λ x. before ++ x) dot)) ∙ joined before decimals exponent;
      before_digits = all_before;
      after_digits = all_after;
      some = omega (arith, len_before, len_after);
      ends = elim ends [ inl none ↦ inl (none_taken e _ none) | inr h ↦ inr h ];
    }

with_exponent : (z : List ℕ) (whole e : ℕ) → whole ≡ digits z → 0 < whole → IsExponent (take e (drop whole z)) → HasExponent (take (whole + e) z)
with_exponent z whole e is_whole some ends =
    let all : AreDigits (take whole z) = rw is_whole (run_all is_ascii_digit z) in
    let len : length (take whole z) ≡ whole = rw is_whole (run_len is_ascii_digit z) in
    record { whole = take whole z; exponent = take e (drop whole z); is = take-add whole e z; digits = all; some = omega (arith, len); ends = ends }

slice_within : (z : List ℕ) (n b : ℕ) → slice_index z n ≡ b → 0 < b → n < length z
slice_within [] n b is some = absurd (omega (arith, get_or_nil n))
slice_within (c ∷ z) zero b is some = omega arith
slice_within (c ∷ z) (suc n) b is some = omega (arith, slice_within z n b is some)

decimal_within : (z : List ℕ) → decimal_length z ≤ length z
decimal_within z =
    let whole = digits z in
    elim (decimal_cases z) [
      | inl p ↦ omega (arith, p.2, slice_within z whole 46 p.0 (omega arith), prefix_len-le-length is_ascii_digit (drop (whole + 1) z), length-drop (whole + 1) z)
      | inr same ↦ omega (arith, same, prefix_len-le-length is_ascii_digit z)
    ]

exponent_within : (z : List ℕ) → exponent_length z ≤ length z
unfolding exponent_length
exponent_within [] = omega arith
exponent_within (e ∷ []) = rw (never ((e == 101) || (e == 69)) (1 + sign_length 0 + 0)) (omega arith)
exponent_within (e ∷ b ∷ y) = elim (exponent_cases e b y) [
  | inl none ↦ omega (arith, none)
  | inr h ↦ omega (arith, h.1, h.2, prefix_len-le-length is_ascii_digit (drop (1 + sign_length b) (e ∷ b ∷ y)), length-drop (1 + sign_length b) (e ∷ b ∷ y))
]

real_spelled : (z : List ℕ) (d : ℕ) → d ≡ decimal_length z → 0 < d → digits z < d + exponent_length (drop d z) → HasPoint (take (d + exponent_length (drop d z)) z) ⊎ HasExponent (take (d + exponent_length (drop d z)) z)
real_spelled z d is some more = elim (decimal_cases z) [
  | inl p ↦ (let same : d ≡ digits z + 1 + digits (drop (digits z + 1) z) = is ∙ p.2 in
      rw same (inl (with_point z (digits z) (digits (drop (digits z + 1) z)) _ refl refl p.0 p.1 (exponent_at _))))
  | inr whole ↦ (let same : d ≡ digits z = is ∙ whole in
      elim (exponent_at (drop d z)) [
        | inl none ↦ absurd (omega (arith, same, none, more))
        | inr ends ↦ inr (with_exponent z d _ same some ends)
      ])
]

number_found : (place : ℕ) (z : List ℕ) → 0 < decimal_length z → IsFound place z (number place z)
unfolding number
number_found place z some =
    let whole = digits z in
    let behind = drop (decimal_length z) z in
    let n = decimal_length z + exponent_length behind in
    let len = run_len is_ascii_digit z in
    let within = prefix_len-le-length is_ascii_digit z in
    let all = run_all is_ascii_digit z in
    let spelled : nat_lt whole n ≡ false → IsTaken (Some (Whole (digits_value 10 (take whole z)))) whole z = (λ same. record { within = within; fits = (all, omega (arith, len, some, at_most_by_test whole n same), refl) }) in
    found_either place z (nat_lt whole n) _ _
    (λ more. (
      record {
        within = omega (arith, decimal_within z, exponent_within behind, length-drop (decimal_length z) z);
        fits = real_spelled z (decimal_length z) refl some (less_by_test whole n more);
      },
      tt,
    ))
    (λ same. found_either place z (nat_lt most_digits whole) _ _
    (λ big. (refl, (digits_value 10 (take whole z), spelled same, less_by_test most_digits whole big)))
    (λ small. (spelled same, at_most_by_test most_digits whole small)))

-- ---- words, texts and signs

word_taken : (b : ℕ) (z : List ℕ) → is_ascii_alphabetic b ≡ true → IsWord (take (prefix_len is_in_word (b ∷ z)) (b ∷ z))
word_taken b z h =
    let inside : is_in_word b ≡ true = grind (arith, nat_tests) in
    let same : 1 + prefix_len is_in_word z ≡ suc (prefix_len is_in_word z) = omega arith in
    rw (inside, same) (h, run_all is_in_word z)

long_is_not_pi : (x : List ℕ) → longest_word < length x → x ≢ codes "pi"
long_is_not_pi x long is = absurd (omega (arith, ap length is, long))

word_found : (place b : ℕ) (z : List ℕ) → is_ascii_alphabetic b ≡ true → IsFound place (b ∷ z) (word place (b ∷ z))
unfolding word
word_found place b z h =
    let n = prefix_len is_in_word (b ∷ z) in
    let x = take n (b ∷ z) in
    let taken = word_taken b z h in
    let len = run_len is_in_word (b ∷ z) in
    let within = prefix_len-le-length is_in_word (b ∷ z) in
    let same = bytes_eq-Decides x (codes "pi") in
    found_either place (b ∷ z) (nat_lt longest_word n) _ _
    (λ long. (let more = less_by_test longest_word n long in (refl, record { within = within; fits = (taken, long_is_not_pi x (omega (arith, len, more))) }, more)))
    (λ short. found_either place (b ∷ z) (bytes_eq x (codes "pi")) _ _
    (λ is. (record { within = within; fits = same.0 is }, tt))
    (λ other. (record { within = within; fits = (taken, λ e. (let is = same.1 e in cc)) }, at_most_by_test longest_word n short)))

quoted_found : (place : ℕ) (z : List ℕ) → IsFound place (34 ∷ z) (quoted place (34 ∷ z))
unfolding quoted
quoted_found place z =
    let n = prefix_len is_in_quotes z in
    let same : 1 + n ≡ suc n = omega arith in
    let behind : 1 + n + 1 ≡ suc (n + 1) = omega arith in
    found_either place (34 ∷ z) (slice_index (34 ∷ z) (1 + n) == 34) _ _
    (λ h. (let close : slice_index z n ≡ 34 = rw same at (equal_by_test (slice_index (34 ∷ z) (1 + n)) 34 h) in (
      record {
        within = omega (arith, slice_within z n 34 close (omega arith));
        fits = record {
          inside = take n z;
          is = rw behind (ap (λ x. 34 ∷ x) (take-add n 1 z ∙ ap (λ x. take n z ++ x) (one_at z n 34 close (omega arith))));
          bytes = run_all is_in_quotes z;
        };
      },
      tt,
    )))
    (λ other. refl)

sign_choice : (place b : ℕ) (z : List ℕ) (t : Bool) (kind : Kind) (others : Option Kind) → (t ≡ true → Spells kind (b ∷ [])) → IsWithinLimit kind 1 → IsFound place (b ∷ z) (one_byte_token place others) → IsFound place (b ∷ z) (one_byte_token place (cond t (Some kind) others))
sign_choice place b z true kind others spells limit rest = (record { within = omega arith; fits = spells refl }, limit)
sign_choice place b z false kind others spells limit rest = rest

sign_step : (place b c : ℕ) (z : List ℕ) (kind : Kind) (others : Option Kind) → (b ≡ c → Spells kind (b ∷ [])) → IsWithinLimit kind 1 → IsFound place (b ∷ z) (one_byte_token place others) → IsFound place (b ∷ z) (one_byte_token place (cond (b == c) (Some kind) others))
sign_step place b c z kind others spells limit rest = sign_choice place b z (b == c) kind others (λ h. spells (equal_by_test b c h)) limit rest

two_taken : (b c : ℕ) (z : List ℕ) → slice_index z 0 ≡ c → 0 < c → take 2 (b ∷ z) ≡ b ∷ c ∷ []
two_taken b c z is some = ap (λ x. b ∷ x) (one_at z 0 c is some)

only : (b c : ℕ) → b ≡ c → b ∷ [] ≡ c ∷ []
only b c h = ap (λ k. k ∷ []) h

two_found : (b c : ℕ) (z : List ℕ) (d : ℕ) (kind : Kind) → ((b == c) && (slice_index z 0 == d)) ≡ true → 0 < d → Spells kind (c ∷ d ∷ []) → IsTaken (Some kind) 2 (b ∷ z)
two_found b c z d kind h some spells =
    let parts = and_parts (b == c) (slice_index z 0 == d) h in
    let next = equal_by_test (slice_index z 0) d parts.1 in
    let here = two_taken b d z next some ∙ ap (λ k. k ∷ d ∷ []) (equal_by_test b c parts.0) in
    record { within = omega (arith, slice_within z 0 d next some); fits = subst (λ x. Spells kind x) (sym here) spells }

sign_found : (place b : ℕ) (z : List ℕ) → IsFound place (b ∷ z) (sign place (b ∷ z))
unfolding sign one_byte_sign
sign_found place b z =
    let next = slice_index z 0 in
    found_either place (b ∷ z) ((b == 45) && (next == 62)) _ _
    (λ h. (two_found b 45 z 62 Arrow h (omega arith) refl, tt))
    (λ _. found_either place (b ∷ z) ((b == 61) && (next == 61)) _ _
    (λ h. (two_found b 61 z 61 Equal h (omega arith) refl, tt))
    (λ _. sign_step place b 59 z Semicolon _ (only b 59) tt
    (sign_step place b 44 z Comma _ (only b 44) tt
    (sign_step place b 40 z LeftParen _ (only b 40) tt
    (sign_step place b 41 z RightParen _ (only b 41) tt
    (sign_step place b 91 z LeftBracket _ (only b 91) tt
    (sign_step place b 93 z RightBracket _ (only b 93) tt
    (sign_step place b 123 z LeftBrace _ (only b 123) tt
    (sign_step place b 125 z RightBrace _ (only b 125) tt
    (sign_step place b 43 z Plus _ (only b 43) tt
    (sign_step place b 45 z Minus _ (only b 45) tt
    (sign_step place b 42 z Star _ (only b 42) tt
    (sign_step place b 47 z Slash _ (only b 47) tt
    (sign_step place b 94 z Caret _ (only b 94) tt refl))))))))))))))

blanks_found : (b : ℕ) (z : List ℕ) → is_blank b ≡ true → IsTaken None (prefix_len is_blank (b ∷ z)) (b ∷ z)
blanks_found b z h =
    let some : 0 < prefix_len is_blank (b ∷ z) = rw h (omega arith) in
    record {
      within = prefix_len-le-length is_blank (b ∷ z);
      fits = inl (run_all is_blank (b ∷ z), omega (arith, run_len is_blank (b ∷ z), some));
    }

comment_found : (y : List ℕ) → IsTaken None (prefix_len is_in_line (47 ∷ 47 ∷ y)) (47 ∷ 47 ∷ y)
comment_found y =
    let n = prefix_len is_in_line y in
    let two : 1 + (1 + n) ≡ suc (suc n) = omega arith in
    record {
      within = prefix_len-le-length is_in_line (47 ∷ 47 ∷ y);
      fits = inr (record { inside = take n y; is = rw two refl; bytes = run_all is_in_line y });
    }

slashes_found : (b : ℕ) (z : List ℕ) → ((b == 47) && (slice_index z 0 == 47)) ≡ true → IsTaken None (prefix_len is_in_line (b ∷ z)) (b ∷ z)
slashes_found b [] h = absurd (omega (arith, equal_by_test 0 47 (and_parts (b == 47) _ h).1))
slashes_found b (c ∷ y) h =
    let parts = and_parts (b == 47) (c == 47) h in
    rw (equal_by_test b 47 parts.0, equal_by_test c 47 parts.1) (comment_found y)

front_found : (place b : ℕ) (z : List ℕ) → IsFound place (b ∷ z) (front place (b ∷ z))
unfolding front
front_found place b z =
    let P : ℕ → Type 0 = λ k. IsFound place (k ∷ z) (quoted place (k ∷ z)) in
    found_either place (b ∷ z) (is_blank b) _ _ (blanks_found b z)
    (λ _. found_either place (b ∷ z) ((b == 47) && (slice_index z 0 == 47)) _ _ (slashes_found b z)
    (λ _. found_either place (b ∷ z) (is_ascii_alphabetic b) _ _ (word_found place b z)
    (λ _. found_either place (b ∷ z) (nat_lt 0 (decimal_length (b ∷ z))) _ _ (λ h. number_found place (b ∷ z) (less_by_test 0 _ h))
    (λ _. found_either place (b ∷ z) (b == 34) _ _ (λ h. subst P (sym (equal_by_test b 34 h)) (quoted_found place z))
    (λ _. sign_found place b z)))))

pub front_right : (place : ℕ) (z : List ℕ) → 0 < length z → IsRight place z (front place z)
front_right place [] some = absurd (omega arith)
front_right place (b ∷ z) some = all_right place (b ∷ z) (front place (b ∷ z)) some (front_found place b z) refl
