-- Digits and their values, and steps of the cut into tokens.
use Rattle.std.proofs.Common.{◌≡◌, ℕ, zero, suc, ◌+◌, ◌-◌, ◌*◌, ◌^◌, ◌<◌, ◌≤◌, true, List, [], ◌∷◌, ◌++◌, length, take, drop, get_or, refl, ap, sym, ◌∙◌, append_assoc, add-one, arith}
use Rattle.std.proofs.Math.Nat.{pow-succ', pow-le-pow_right}
use Rattle.std.proofs.lemmas.List.Sums.{prefix_len_passes, prefix_len-le-length}
use Rattle.std.proofs.lemmas.Bool.Decides.{nat_tests}
use Rattle.std.proofs.lemmas.List.{append-nil}
use Rattle.std.proofs.lemmas.Int.Digits.{digits_value_more}
use Rattle.std.specs.Prelude.{Result, Ok, Err}
use Rattle.std.specs.Char.{is_ascii_digit, digit_value}
use Rattle.std.specs.Str.Parse.{digits_value}
use Rattle.std.specs.List.{All}
use Rattle.qz_lex.specs.Classes.{IsTokenOf}
use Rattle.qz_circ.specs.FirstFault.{GivesUnless}
use Rattle.qz_circ.specs.declared.fault.LexFault.TheVariants.{Memory, BadByte, LongName, BigNumber}
use Rattle.std.proofs.Common.{◌⊎◌, inl, inr}
use Rattle.qz_circ.specs.declared.token.Token.{Token}
use Rattle.qz_circ.specs.declared.fault.LexFault.{LexFault}
use Rattle.qz_circ.specs.FirstFault.{◌>>=◌}
use Rattle.qz_circ.specs.Tokens.{Front, digits, front, with_token, tokens_from}
use Rattle.std.specs.Prelude.{Some, None}

-- the value of fewer than eighteen digits and one more fits 64 bits
pub small_value : (value i : ℕ) → value < 10 ^ i → i < 18 → value * 10 + 10 ≤ 10 ^ 18
small_value value i small few = omega (arith, pow-succ' 10 i, pow-le-pow_right {n = 10} (omega arith) {i = suc i} {j = 18} (omega arith))

-- one digit more keeps the value below the next power
pub small_after : (value i b : ℕ) → value < 10 ^ i → b ≤ 9 → value * 10 + b < 10 ^ (i + 1)
small_after value i b small digit = rw (add-one i) (omega (arith, pow-succ' 10 i))

-- what is known of a byte that is a digit
pub record IsDigit (b : ℕ) : Type 0 where
  pub low : 48 ≤ b
  pub high : b ≤ 57
  pub value : digit_value b ≡ b - 48

digit_by_test : (b : ℕ) → is_ascii_digit b ≡ true → IsDigit b
digit_by_test b h = record { low = grind (arith, nat_tests); high = grind (arith, nat_tests); value = grind (arith, nat_tests) }

-- each of the digits at the front is one, and stands in the text
pub digit_at_front : (z : List ℕ) (i : ℕ) → i < digits z → IsDigit (get_or z i 0)
digit_at_front z i h = digit_by_test _ (prefix_len_passes is_ascii_digit z i 0 h)

pub within_by_digits : (z : List ℕ) (i : ℕ) → i < digits z → i < length z
within_by_digits z i h = omega (arith, prefix_len-le-length is_ascii_digit z)

-- the value of one digit more
pub value_with_digit : (z : List ℕ) (i value b : ℕ) → i < digits z → value ≡ digits_value 10 (take i z) → b ≡ get_or z i 0 - 48 → value * 10 + b ≡ digits_value 10 (take (i + 1) z)
value_with_digit z i value b h e is =
    let more = digits_value_more 10 z i (within_by_digits z i h) in
    let here = (digit_at_front z i h).value in
    rw more (rw here (rw (← e) (rw is refl)))

-- these tokens, before those that are read
abbrev pub with_front : List Token → Result (List Token) LexFault → Result (List Token) LexFault
with_front found others = others >>= (λ more. Ok (found ++ more))

-- bytes that belong to what stands before are passed over
taken_bytes : (n place : ℕ) (z : List ℕ) → tokens_from n place z ≡ tokens_from 0 (place + n) (drop n z)
unfolding tokens_from
taken_bytes zero place z = let same : place ≡ place + 0 = omega arith in ap (λ k. tokens_from 0 k z) same
taken_bytes (suc n) place [] = refl
taken_bytes (suc n) place (b ∷ z) =
    let same : place + 1 + n ≡ place + suc n = omega arith in
    taken_bytes n (place + 1) z ∙ ap (λ k. tokens_from 0 k (drop n z)) same

-- the rest behind a gap or token of at least one byte
rest_after : (n place b : ℕ) (z : List ℕ) → 0 < n → tokens_from (n - 1) (place + 1) z ≡ tokens_from 0 (place + n) (drop n (b ∷ z))
rest_after zero place b z some = absurd (omega arith)
rest_after (suc n) place b z some =
    let less : suc n - 1 ≡ n = omega arith in
    let same : place + 1 + n ≡ place + suc n = omega arith in
    ap (λ k. tokens_from k (place + 1) z) less ∙ taken_bytes n (place + 1) z ∙ ap (λ k. tokens_from 0 k (drop n z)) same

pub with_token-append : (place : ℕ) (first : Front) (others : List Token) → with_token place first others ≡ with_token place first [] ++ others
with_token-append place (Some kind, n) others = refl
with_token-append place (None, n) others = refl

with_front-more : (place : ℕ) (first : Front) (found : List Token) (others : Result (List Token) LexFault) → with_front found (others >>= (λ more. Ok (with_token place first more))) ≡ with_front (found ++ with_token place first []) others
with_front-more place first found (Ok more) = ap Ok (ap (λ x. found ++ x) (with_token-append place first more) ∙ sym (append_assoc found (with_token place first []) more))
with_front-more place first found (Err e) = refl

-- the step over one gap or token
pub tokens_go : (place : ℕ) (z : List ℕ) (first : Front) (found : List Token) → 0 < length z → front place z ≡ Ok first → 0 < first.1 → with_front (found ++ with_token place first []) (tokens_from 0 (place + first.1) (drop first.1 z)) ≡ with_front found (tokens_from 0 place z)
unfolding tokens_from
tokens_go place [] first found some is moves = absurd (omega arith)
tokens_go place (b ∷ z) first found some is moves =
    rw is (sym (with_front-more place first found (tokens_from (first.1 - 1) (place + 1) z) ∙ ap (with_front (found ++ with_token place first [])) (rest_after first.1 place b z moves)))

-- the fault at the front is the first one
pub tokens_fail : (place : ℕ) (z : List ℕ) (e : LexFault) (found : List Token) → 0 < length z → front place z ≡ Err e → with_front found (tokens_from 0 place z) ≡ Err e
unfolding tokens_from
tokens_fail place [] e found some is = absurd (omega arith)
tokens_fail place (b ∷ z) e found some is = rw is refl

-- nothing is left at the end
pub tokens_end : (place : ℕ) (z : List ℕ) (found : List Token) → length z ≡ 0 → with_front found (tokens_from 0 place z) ≡ Ok found
unfolding tokens_from
tokens_end place [] found none = ap Ok (append-nil found)
tokens_end place (b ∷ z) found none = absurd (omega arith)

-- nothing stands before all tokens
pub with_front-nil : (others : Result (List Token) LexFault) → with_front [] others ≡ others
with_front-nil (Ok more) = refl
with_front-nil (Err e) = refl

-- the token at the front of a rest is one of the text
pub part_of_front : (place len : ℕ) (first : Front) → 0 < first.1 → place + first.1 ≤ len → All (IsTokenOf len) (with_token place first [])
part_of_front place len (Some kind, n) some fits zero d h = (omega arith, fits)
part_of_front place len (Some kind, n) some fits (suc k) d h = absurd (omega arith)
part_of_front place len (None, n) some fits k d h = absurd (omega arith)

-- a fault of the reading is the call's, unless memory ran out
pub fault_given : {X Y : Type 0} (view : X → Y) (r : Result X LexFault) (reading : Result Y LexFault) (e : LexFault) → GivesUnless Memory view r reading → reading ≡ Err e → (r ≡ Err e) ⊎ (r ≡ Err Memory)
fault_given view (Ok x) reading e gives is = absurd (cc)
fault_given view (Err Memory) reading e gives is = inr refl
fault_given view (Err (BadByte p)) reading e gives is = let same = gives (λ h. cc) in inl (cc)
fault_given view (Err (LongName p)) reading e gives is = let same = gives (λ h. cc) in inl (cc)
fault_given view (Err (BigNumber p)) reading e gives is = let same = gives (λ h. cc) in inl (cc)
