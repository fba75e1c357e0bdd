-- What the tokens of an angle mean: a number of 256ths of pi, or the first fault. The grammar is a part of OpenQASM 2.0's;
-- fractions of pi, the limits and the order of faults are this project's own.
use Rattle.std.specs.Prelude.{ℕ, zero, suc, ◌*◌, ◌/◌, ◌%◌, ◌^◌, ℤ, pos, neg_ℤ, ◌+ℤ◌, ◌*ℤ◌, unsigned_abs, Bool, true, false, not, ◌&&◌, ◌||◌, ◌==◌, nat_lt, if◌then◌else◌, List, [], ◌∷◌, length, Result, Ok, Err}
use Rattle.std.specs.Int.{is_negative, int_rem_euclid}
use Rattle.qz_circ.specs.declared.token.Token.{Token}
use Rattle.qz_circ.specs.declared.token.Kind.TheVariants.{Whole, Pi, LeftParen, RightParen, Plus, Minus, Star, Slash}
use Rattle.qz_circ.specs.declared.token.Kind.{Kind}
use Rattle.qz_circ.specs.declared.fault.AngleFault.{AngleFault}
use Rattle.qz_circ.specs.declared.fault.AngleFault.TheVariants as fault
use Rattle.qz_circ.specs.FirstFault.{◌>>=◌}

-- ---- values

-- a fraction in lowest terms; whether it is a multiple of pi, and not a plain number. 0 counts as a plain number.
pub record Value : Type 0 where
  pub numerator : ℤ
  pub denominator : ℕ
  pub is_angle : Bool

-- a value, or the first fault in computing it
abbrev pub Meaning : Type 0
Meaning = Result Value AngleFault

abbrev pub is_zero : Value → Bool
is_zero a = unsigned_abs a.numerator == 0

-- a plain whole number
abbrev pub whole_value : ℕ → Value
whole_value n = record { numerator = pos n; denominator = 1; is_angle = false }

abbrev pub pi_value : Value
pi_value = record { numerator = pos 1; denominator = 1; is_angle = true }

-- the greatest number up to k that divides both
unfoldable pub divisor_up_to : ℕ → ℕ → ℕ → ℕ
divisor_up_to zero a b = 0
divisor_up_to (suc k) a b = if a % suc k == 0 && b % suc k == 0 then suc k else divisor_up_to k a b

-- the greatest common divisor of two numbers, the second not 0
unfoldable pub greatest_divisor : ℕ → ℕ → ℕ
greatest_divisor a b = divisor_up_to b a b

-- the greatest numerator, without its sign, and the greatest denominator that an operator may give
unfoldable pub largest : ℕ
largest = 10 ^ 18

-- the number, or its negative where the flag is set
abbrev pub negative_if : Bool → ℕ → ℤ
negative_if false n = pos n
negative_if true n = neg_ℤ (pos n)

-- what the operator at a place gives, in lowest terms, unless it is too large
unfoldable pub in_range : ℕ → ℤ → ℕ → Bool → Meaning
in_range place numerator denominator is_angle =
    let size = unsigned_abs numerator in
    let divisor = greatest_divisor size denominator in
    let reduced : Value = record { numerator = negative_if (is_negative numerator) (size / divisor); denominator = denominator / divisor; is_angle = is_angle && not (size == 0) } in
    if nat_lt largest (size / divisor) || nat_lt largest (denominator / divisor) then Err (fault.Range place) else Ok reduced

-- the negative of a value
abbrev pub negative : Value → Value
negative a = record a { numerator = neg_ℤ a.numerator }

-- one is a multiple of pi and the other one isn't
abbrev pub is_one_only : Bool → Bool → Bool
is_one_only a b = (a && not b) || (b && not a)

-- The sum. A plain number other than 0 and a multiple of pi don't go together.
unfoldable pub sum_of : ℕ → Value → Value → Meaning
sum_of place a b =
    if not (is_zero a) && not (is_zero b) && is_one_only a.is_angle b.is_angle then Err (fault.Kind place)
    else in_range place ((a.numerator *ℤ pos b.denominator) +ℤ (b.numerator *ℤ pos a.denominator)) (a.denominator * b.denominator) (a.is_angle || b.is_angle)

-- The product. Two multiples of pi don't go together.
unfoldable pub product_of : ℕ → Value → Value → Meaning
product_of place a b =
    if not (is_zero a) && not (is_zero b) && a.is_angle && b.is_angle then Err (fault.Kind place)
    else in_range place (a.numerator *ℤ b.numerator) (a.denominator * b.denominator) (a.is_angle || b.is_angle)

-- The quotient. Nothing is divided by 0, and no plain number but 0 by a multiple of pi.
unfoldable pub quotient_of : ℕ → Value → Value → Meaning
quotient_of place a b =
    if is_zero b then Err (fault.ZeroDivisor place)
    else if not (is_zero a) && not a.is_angle && b.is_angle then Err (fault.Kind place)
    else in_range place (a.numerator *ℤ negative_if (is_negative b.numerator) b.denominator) (a.denominator * unsigned_abs b.numerator) (a.is_angle && not b.is_angle)

-- what an operator at a place makes of two values
abbrev pub operate : Kind → ℕ → Value → Value → Meaning
operate Plus place a b = sum_of place a b
operate Minus place a b = sum_of place a (negative b)
operate Star place a b = product_of place a b
operate _ place a b = quotient_of place a b

-- the same of what two operands mean: the left one's fault comes before the right one's, and both before the operator's
unfoldable pub combined : Token → Meaning → Meaning → Meaning
combined operator left right = do
  a ← left
  b ← right
  operate operator.kind operator.start a b

-- the negative of what an operand means, where this sign stands before it
unfoldable pub negated : Token → Meaning → Meaning
negated sign operand = do
  a ← operand
  in_range sign.start (neg_ℤ a.numerator) a.denominator a.is_angle

-- ---- form

-- What the first tokens mean, and the tokens after them; or a fault of form. Faults of values are kept in the meaning, so
-- that those of form come before them.
abbrev pub Reading : Type 0
Reading = Result (Meaning × List Token) AngleFault

abbrev pub Parser : Type 0
Parser = List Token → Reading

-- the first token is refused; where there is none, the place is that behind the last one
abbrev pub form_fault : {A : Type 0} → ℕ → List Token → Result A AngleFault
form_fault end [] = Err (fault.Form end)
form_fault end (t ∷ ts) = Err (fault.Form t.start)

-- the operators of sums, and those of products
abbrev pub is_sum_sign : Kind → Bool
is_sum_sign Plus = true
is_sum_sign Minus = true
is_sum_sign _ = false

abbrev pub is_product_sign : Kind → Bool
is_product_sign Star = true
is_product_sign Slash = true
is_product_sign _ = false

-- More operands of one kind behind a first one of this meaning, each after an operator, joined from left to right. n is
-- the number of tokens that are left, so that all operators are joined.
unfoldable pub chain : (Kind → Bool) → Parser → ℕ → Meaning → Parser
chain joins operand zero left ts = Ok (left, ts)
chain joins operand (suc n) left [] = Ok (left, [])
chain joins operand (suc n) left (t ∷ ts) =
    if joins t.kind then (do
      right ← operand ts
      chain joins operand n (combined t left right.0) right.1)
    else Ok (left, t ∷ ts)

-- one operand or more, with operators between them
unfoldable pub with_operators : (Kind → Bool) → Parser → Parser
with_operators joins operand ts = do
  first ← operand ts
  chain joins operand (length first.1) first.0 first.1

-- a term: unary operands, multiplied and divided
abbrev pub term : Parser → Parser
term unary = with_operators is_product_sign unary

-- an expression: terms, added and subtracted
abbrev pub expression : Parser → Parser
expression unary = with_operators is_sum_sign (term unary)

-- a closing parenthesis, before what is left
abbrev pub is_closing : Kind → Bool
is_closing RightParen = true
is_closing _ = false

-- what stood in parentheses, where the closing one follows
unfoldable pub closed : ℕ → Meaning → List Token → Reading
closed end inner [] = form_fault end []
closed end inner (t ∷ ts) = if is_closing t.kind then Ok (inner, ts) else form_fault end (t ∷ ts)

-- a whole number or pi, by the kind of a first token
abbrev pub primary : ℕ → Kind → Token → List Token → Reading
primary end (Whole n) t ts = Ok (Ok (whole_value n), ts)
primary end Pi t ts = Ok (Ok pi_value, ts)
primary end _ t ts = form_fault end (t ∷ ts)

-- a minus sign with the unary operand that it is pending on, or an expression in parentheses, or else a primary; `inner` reads
-- unary operands one level deeper
abbrev pub nested : ℕ → Parser → Kind → Token → List Token → Reading
nested end inner Minus t ts = do
  operand ← inner ts
  Ok (negated t operand.0, operand.1)
nested end inner LeftParen t ts = do
  operand ← expression inner ts
  closed end operand.0 operand.1
nested end inner kind t ts = primary end kind t ts

-- the tokens that go one level deeper
abbrev pub is_opening : Kind → Bool
is_opening Minus = true
is_opening LeftParen = true
is_opening _ = false

-- a unary operand with at most so many open parentheses and pending signs more
unfoldable pub unary : ℕ → ℕ → Parser
unary depth end [] = form_fault end []
unary zero end (t ∷ ts) = if is_opening t.kind then Err (fault.Deep t.start) else primary end t.kind t ts
unary (suc depth) end (t ∷ ts) = nested end (unary depth end) t.kind t ts

-- ---- angles

-- the most parentheses that are open and signs that are pending at a token
unfoldable pub most_nested : ℕ
most_nested = 32

-- what all tokens mean, where none is left
unfoldable pub all_read : ℕ → Meaning → List Token → Result Meaning AngleFault
all_read end meaning [] = Ok meaning
all_read end meaning (t ∷ ts) = form_fault end (t ∷ ts)

-- where the first token begins
abbrev pub start_of : List Token → ℕ
start_of [] = 0
start_of (t ∷ ts) = t.start

-- where the last token ends
unfoldable pub end_of : List Token → ℕ
end_of [] = 0
end_of (t ∷ []) = t.end
end_of (t ∷ u ∷ ts) = end_of (u ∷ ts)

-- how many 256ths of pi a value is, modulo 512; it has to be a multiple of pi or 0, and a whole number of 256ths
unfoldable pub turns_of : ℕ → Value → Result ℕ AngleFault
turns_of place a =
    let size = unsigned_abs a.numerator in
    if not (is_zero a) && not a.is_angle then Err (fault.Kind place)
    else if not (256 * size % a.denominator == 0) then Err (fault.NotMultiple place)
    else Ok (unsigned_abs (int_rem_euclid (negative_if (is_negative a.numerator) (256 * size / a.denominator)) (pos 512)))

-- The angle of some tokens as a number of 256ths of pi below 512. First the form is checked, then the value is computed, and
-- then it is turned into the number.
unfoldable pub angle_of : List Token → Result ℕ AngleFault
angle_of ts = do
  first ← expression (unary most_nested (end_of ts)) ts
  meaning ← all_read (end_of ts) first.0 first.1
  value ← meaning
  turns_of (start_of ts) value
