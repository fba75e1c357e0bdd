-- The pieces of names, numbers, operands and angles are sound.
use Rattle.std.proofs.Common.{◌≡◌, ℕ, zero, suc, ◌-◌, ◌/◌, ◌%◌, ◌^◌, ◌<◌, ◌≤◌, ◌==◌, Bool, true, false, cond, List, [], ◌∷◌, ◌++◌, length, get_or, refl, sym, ap, ◌∙◌, arith, codes, ◌⊎◌, inl, inr}
use Rattle.std.proofs.Math.Nat.{pow-succ'}
use Rattle.std.specs.Prelude.{Option, Some, None, nat_lt, IsTrue, Contains}
use Rattle.std.specs.Char.{is_ascii_digit, is_ascii_alphabetic, is_ascii_lowercase}
use Rattle.std.specs.Fmt.{decimal}
use Rattle.std.specs.List.{list_all, AllByRecursion}
use Rattle.std.specs.Str.{bytes_eq}
use Rattle.std.specs.Str.Parse.{AllDigits}
use Rattle.std.proofs.lemmas.Bool.{and_parts}
use Rattle.std.proofs.lemmas.Bool.Decides.{nat_tests}
use Rattle.std.proofs.lemmas.Fmt.{decimal_is_IsNumeral, length-decimal-le}
use Rattle.std.proofs.lemmas.Slice.Eq.{bytes_eq-Decides}
use Rattle.std.proofs.lemmas.Str.Parse.{digit_at}
use Rattle.qz_circ.specs.declared.token.Kind.TheVariants.{Word, Whole, Comma, Minus, Star, Slash}
use Rattle.qz_circ.specs.ProgramText.{lowest_terms}
use Rattle.qz_circ.specs.Tokens.{is_blank, is_in_word}
use Rattle.qz_circ.specs.TokenTexts.{IsWord}
use Rattle.qz_circ.specs.ValidPrograms.{reserved_words, IsSpelledAsName, IsRegisterName}
use Rattle.qz_qread.proofs.Pieces.{Piece, text_of, whole, pi, sign, indexed, placed, multiple, divisor, positive_angle, angle}
use Rattle.qz_qread.proofs.PieceTexts.{text_of-append}
use Rattle.qz_qread.proofs.ExactFronts.{Fits}
use Rattle.qz_qread.proofs.SoundPieces.{AreSoundBefore}

-- ---- pieces end to end

-- the first byte of pieces, or this one where they have none
abbrev pub first_byte : ℕ → List Piece → ℕ
first_byte next ps = get_or (text_of ps) 0 next

head-append : (x y : List ℕ) (next : ℕ) → get_or (x ++ y) 0 next ≡ get_or x 0 (get_or y 0 next)
head-append [] y next = refl
head-append (b ∷ x) y next = refl

pub first_byte-append : (next : ℕ) (ps rs : List Piece) → first_byte next (ps ++ rs) ≡ first_byte (first_byte next rs) ps
first_byte-append next ps rs = ap (λ x. get_or x 0 next) (text_of-append ps rs) ∙ head-append (text_of ps) (text_of rs) next

pub sound-append : (next : ℕ) (ps rs : List Piece) → AreSoundBefore (first_byte next rs) ps → AreSoundBefore next rs → AreSoundBefore next (ps ++ rs)
sound-append next [] rs first second = second
sound-append next (p ∷ ps) rs first second =
    (first.0, rw (first_byte-append next ps rs) first.1, sound-append next ps rs first.2 second)

-- ---- words

letter_is_no_blank : (b : ℕ) → is_ascii_alphabetic b ≡ true → is_blank b ≡ false
letter_is_no_blank b h = grind (arith, nat_tests)

-- a word begins with no blank
pub word_begins : (x rest : List ℕ) (next : ℕ) → IsWord x → is_blank (get_or (x ++ rest) 0 next) ≡ false
word_begins [] rest next h = absurd h
word_begins (b ∷ x) rest next h = letter_is_no_blank b h.0

-- a word that a test tells from pi
pub keyword : (x : List ℕ) → IsWord x → bytes_eq x (codes "pi") ≡ false → length x ≤ 64 → Fits (Some Word) x
keyword x spelled other short = ((spelled, λ e. (let same = (bytes_eq-Decides x (codes "pi")).1 e in cc)), short)

lowercase_letter : (b : ℕ) → is_ascii_lowercase b ≡ true → is_ascii_alphabetic b ≡ true
lowercase_letter b h = grind (arith, nat_tests)

all_in_word : (x : List ℕ) → AllByRecursion (λ c. IsTrue (is_in_word c)) x → list_all is_in_word x ≡ true
all_in_word [] h = refl
all_in_word (b ∷ x) h = rw h.0 (all_in_word x h.1)

spelled_word : (x : List ℕ) → IsSpelledAsName x → IsWord x
spelled_word [] h = absurd h
spelled_word (b ∷ x) h = (lowercase_letter b h.0, all_in_word x h.1)

pi_is_reserved : Contains reserved_words (codes "pi")
unfolding reserved_words
pi_is_reserved = (0, omega arith, refl)

-- the name of a register is a word
name_fits : (name : List ℕ) → IsRegisterName name → Fits (Some Word) name
name_fits name h = ((spelled_word name h.spelled, λ e. h.free (rw e pi_is_reserved)), h.short)

-- ---- whole numbers

digit_by_range : (b : ℕ) → 48 ≤ b → b ≤ 57 → is_ascii_digit b ≡ true
digit_by_range b low high = grind (arith, nat_tests)

all_digits : (x : List ℕ) → AllDigits 10 x → list_all is_ascii_digit x ≡ true
all_digits [] h = refl
all_digits (b ∷ x) h = let here = digit_at (b ∷ x) 0 h (omega arith) in rw (digit_by_range b here.0 here.1) (all_digits x h.1)

-- a number below 10,000 is whole, with at most eighteen digits
whole_fits : (n : ℕ) → n < 10000 → Fits (Some (Whole n)) (decimal n)
whole_fits n small =
    let wide : n < 2 ^ 64 = omega arith in
    let numeral = decimal_is_IsNumeral n wide in
    ((all_digits (decimal n) numeral.0.1, numeral.0.0, sym numeral.1), length-decimal-le 18 n (omega arith) (omega arith) wide)

-- and begins with a digit
pub whole_begins : (n : ℕ) (rest : List ℕ) (next : ℕ) → n < 10000 → is_ascii_digit (get_or (decimal n ++ rest) 0 next) ≡ true
whole_begins n rest next small = by (decimal n) (whole_fits n small).0.0 (whole_fits n small).0.1
  where
    by : (x : List ℕ) → list_all is_ascii_digit x ≡ true → 0 < length x → is_ascii_digit (get_or (x ++ rest) 0 next) ≡ true
    by [] all some = absurd (omega arith)
    by (b ∷ x) all some = (and_parts (is_ascii_digit b) (list_all is_ascii_digit x) all).0

-- ---- operands

-- pieces that may stand behind a blank, and before each byte that is not of a word
pub record AreOperands (ps : List Piece) : Type 0 where
  pub sound : (next : ℕ) → is_in_word next ≡ false → AreSoundBefore next ps
  pub begins : (next : ℕ) → is_blank (first_byte next ps) ≡ false

pub indexed_operand : (name : List ℕ) (n : ℕ) → IsRegisterName name → n < 10000 → AreOperands (indexed name n)
unfolding indexed
indexed_operand name n h small = record {
  sound = λ next ends. (name_fits name h, refl, ((refl, tt), refl, (whole_fits n small, refl, ((refl, tt), refl, tt))));
  begins = λ next. word_begins name _ next (name_fits name h).0.0;
}

pub placed_operand : (name : List ℕ) (place : Option ℕ) → IsRegisterName name → ((n : ℕ) → place ≡ Some n → n < 10000) → AreOperands (placed name place)
placed_operand name None h small = record {
  sound = λ next ends. (name_fits name h, ends, tt);
  begins = λ next. word_begins name _ next (name_fits name h).0.0;
}
placed_operand name (Some n) h small = indexed_operand name n h (small n refl)

-- two with a comma between them
pub joined_operands : (ps rs : List Piece) → AreOperands ps → AreOperands rs → AreOperands (ps ++ sign Comma (codes ",") ∷ rs)
joined_operands ps rs first second = record {
  sound = λ next ends. sound-append next ps (sign Comma (codes ",") ∷ rs) (first.sound 44 refl) ((refl, tt), refl, second.sound next ends);
  begins = λ next. rw (first_byte-append next ps (sign Comma (codes ",") ∷ rs)) (first.begins 44);
}

-- ---- angles

-- the numerator and the denominator only shrink
lowest_small : (n m : ℕ) → ((lowest_terms n m).0 ≤ m) × ((lowest_terms n m).1 ≤ 2 ^ n)
unfolding lowest_terms
lowest_small zero m = (omega arith, omega arith)
lowest_small (suc n) m = by (m % 2 == 0) (lowest_small n (m / 2))
  where
    by : (t : Bool) → ((lowest_terms n (m / 2)).0 ≤ m / 2) × ((lowest_terms n (m / 2)).1 ≤ 2 ^ n) → ((cond t (lowest_terms n (m / 2)) (m, 2 ^ suc n)).0 ≤ m) × ((cond t (lowest_terms n (m / 2)) (m, 2 ^ suc n)).1 ≤ 2 ^ suc n)
    by true less = (omega arith, omega (arith, pow-succ' 2 n))
    by false less = (omega arith, omega arith)

-- pieces that may stand in an angle behind a minus, and before each byte that is not of a word
record IsPartOfAngle (ps : List Piece) : Type 0 where
  sound : (next : ℕ) → is_in_word next ≡ false → AreSoundBefore next ps
  begins : (next : ℕ) → (first_byte next ps == 62) ≡ false

digit_is_no_sign : (b c : ℕ) → is_ascii_digit b ≡ true → c < 48 ⊎ 57 < c → (b == c) ≡ false
digit_is_no_sign b c h other = grind (arith, nat_tests)

multiple_sound : (numerator : ℕ) → numerator < 10000 → IsPartOfAngle (multiple numerator)
unfolding multiple
multiple_sound numerator small = by (numerator == 1)
  where
    by : (t : Bool) → IsPartOfAngle (cond t (pi ∷ []) (whole numerator ∷ sign Star (codes "*") ∷ pi ∷ []))
    by true = record { sound = λ next ends. ((refl, tt), ends, tt); begins = λ next. refl }
    by false = record {
      sound = λ next ends. (whole_fits numerator small, refl, ((refl, tt), refl, ((refl, tt), ends, tt)));
      begins = λ next. digit_is_no_sign _ 62 (whole_begins numerator _ next small) (inr (omega arith));
    }

-- a slash and the denominator before the closing parenthesis, where a number may not go on
divisor_sound : (denominator : ℕ) → denominator < 10000 → AreSoundBefore 41 (divisor denominator) × (is_in_word (first_byte 41 (divisor denominator)) ≡ false)
unfolding divisor
divisor_sound denominator small = by (denominator == 1)
  where
    by : (t : Bool) → AreSoundBefore 41 (cond t [] (sign Slash (codes "/") ∷ whole denominator ∷ [])) × (is_in_word (first_byte 41 (cond t [] (sign Slash (codes "/") ∷ whole denominator ∷ []))) ≡ false)
    by true = (tt, refl)
    by false = (((refl, tt), digit_is_no_sign _ 47 (whole_begins denominator [] 41 small) (inl (omega arith)), (whole_fits denominator small, refl, tt)), refl)

positive_sound : (m : ℕ) → m < 512 → AreSoundBefore 41 (positive_angle m) × ((first_byte 41 (positive_angle m) == 62) ≡ false)
unfolding positive_angle
positive_sound m small =
    let fraction = lowest_terms 8 m in
    let less = lowest_small 8 m in
    let over = divisor_sound fraction.1 (omega (arith, less)) in
    let first = multiple_sound fraction.0 (omega (arith, less)) in (
      sound-append 41 (multiple fraction.0) (divisor fraction.1) (first.sound _ over.1) over.0,
      rw (first_byte-append 41 (multiple fraction.0) (divisor fraction.1)) (first.begins (first_byte 41 (divisor fraction.1))),
    )

-- an angle before the closing parenthesis
pub angle_sound : (k : ℕ) → k < 512 → AreSoundBefore 41 (angle k)
unfolding angle
angle_sound k small = by (nat_lt 256 k) refl
  where
    by : (t : Bool) → nat_lt 256 k ≡ t → AreSoundBefore 41 (cond t (sign Minus (codes "-") ∷ positive_angle (512 - k)) (positive_angle k))
    by true more = (let m = positive_sound (512 - k) (let above : 256 < k = grind (arith, nat_tests) in omega arith) in ((refl, tt), m.1, m.0))
    by false less = (positive_sound k small).0
