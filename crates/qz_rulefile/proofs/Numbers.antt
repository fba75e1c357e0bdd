-- Reading a number of at most nine digits and the byte that ends it is exact.
use Rattle.std.proofs.Common.{◌≡◌, ℕ, suc, ◌+◌, ◌-◌, ◌*◌, ◌/◌, ◌%◌, ◌^◌, ◌≤◌, ◌<◌, Bool, true, false, cond, eqb, ltb, leb, ◌&&◌, List, [], ◌∷◌, ◌++◌, length, get_or, Ok, Err, refl, sym, ap, subst, ◌∙◌, ◌⊎◌, inl, inr, append_assoc, arith, length-append}
use Rattle.std.specs.Fmt.{decimal}
use Rattle.std.proofs.lemmas.Fmt.{decimal_by_steps, decimal_step, decimal_digit, decimal_injective, decimal_nonempty, first_decimal}
use Rattle.std.proofs.lemmas.Bool.{cases_lt, eqb-true, eq-eqb, ne_eqb, ltb-true, lt-ltb, leb-true, le-leb}
use Rattle.std.proofs.lemmas.List.{append-nil}
use Rattle.std.proofs.lemmas.Int.{ints}
use Rattle.qz_circ.specs.FaultPlaces.{Begins}
use Rattle.qz_rulefile.specs.Reading.{Read, digits_at, number_at}
use Rattle.qz_rulefile.proofs.Exact.{Faults, Exact, cuts, ok_parts}

-- ---- what answers and lists say

err_is : {X : Type 0} {k n : ℕ} → ◌≡◌ {A = Read X} (Err k) (Err n) → k ≡ n
err_is e = cc

no_fault : {X : Type 0} {k : ℕ} {x : X × List ℕ} → ◌≡◌ {A = Read X} (Ok x) (Err k) → ⊥
no_fault e = cc

no_value : {X : Type 0} {k : ℕ} {x : X × List ℕ} → ◌≡◌ {A = Read X} (Err k) (Ok x) → ⊥
no_value e = cc

nothing : {b : ℕ} {more : List ℕ} → [] ≡ b ∷ more → ⊥
nothing e = cc

heads : {b c : ℕ} {x y : List ℕ} → b ∷ x ≡ c ∷ y → b ≡ c
heads e = grind arith

two_true : (a b : Bool) → (a && b) ≡ true → (a ≡ true) × (b ≡ true)
two_true true true e = (refl, refl)
two_true true false e = absurd cc
two_true false b e = absurd cc

-- ---- the digits of numbers

-- a number with one digit more
more_digit : (v d : ℕ) → 0 < v → d < 10 → v < 1000000000 → decimal (v * 10 + d) ≡ decimal v ++ (48 + d) ∷ []
more_digit v d some small few =
    let tens : (v * 10 + d) / 10 ≡ v = omega (arith, ints) in
    let ones : (v * 10 + d) % 10 ≡ d = omega (arith, ints) in
    let step = decimal_step (v * 10 + d) (omega arith) (omega arith) in
    rw (tens, ones) at step

-- the byte is a digit, and the number begins with v and then this digit
record IsNext (v b n : ℕ) : Type 0 where
  digit : ℕ
  small : digit < 10
  is : b ≡ 48 + digit
  within : v * 10 + digit ≤ n

-- what follows a number at the front of the digits of another one
record Leads (v n : ℕ) (ds : List ℕ) : Type 0 where
  text : ds ≡ decimal n
  next : (b : ℕ) (more : List ℕ) → ds ≡ decimal v ++ b ∷ more → IsNext v b n

too_long : {A : Type 0} (x y : A) (a more : List A) → x ∷ [] ≡ a ++ y ∷ more → 0 < length a → ⊥
too_long x y a more e some =
    let len : 1 ≡ length a + suc (length more) = ap length e ∙ length-append a (y ∷ more) in
    omega arith

leads : (v : ℕ) → v < 2 ^ 64 → (n : ℕ) → n < 2 ^ 64 → Leads v n (decimal n)
leads v small n few =
    let P : ℕ → List ℕ → Type 0 = λ n ds. n < 2 ^ 64 → Leads v n ds in
    decimal_by_steps P
    (λ n lt f. record {
      text = sym (decimal_digit n lt);
      next = λ b more e. absurd (too_long (48 + n) b (decimal v) more e (decimal_nonempty v small));
    })
    (λ n ds ten before f.
    let shorter = before (omega (arith, ints)) in
    record {
      text = ap (λ (z : List ℕ). z ++ (48 + n % 10) ∷ []) shorter.text ∙ sym (decimal_step n ten f);
      next = λ b more e.
          elim (cuts ds ((48 + n % 10) ∷ []) (decimal v) (b ∷ more) e) [
            | inl c ↦ next_of v n ds b more small f shorter c.0 c.1 c.2
            | inr c ↦ absurd (too_long (48 + n % 10) b (c.0 ∷ c.1) more c.3 (omega arith))
          ];
    })
    n few few
  where
    next_of : (v n : ℕ) (ds : List ℕ) (b : ℕ) (more : List ℕ) → v < 2 ^ 64 → n < 2 ^ 64 → Leads v (n / 10) ds → (r : List ℕ) → ds ≡ decimal v ++ r → r ++ (48 + n % 10) ∷ [] ≡ b ∷ more → IsNext v b n
    next_of v n ds b more small f shorter [] front back =
        let same : n / 10 ≡ v = decimal_injective (n / 10) v (omega (arith, ints)) small (sym shorter.text ∙ front ∙ append-nil (decimal v)) in
        let byte : 48 + n % 10 ≡ b = grind arith in
        record { digit = n % 10; small = omega (arith, ints); is = sym byte; within = omega (arith, ints) }
    next_of v n ds b more small f shorter (h ∷ r) front back =
        let byte : h ≡ b = grind arith in
        let t = shorter.next h r front in
        record { digit = t.digit; small = t.small; is = sym byte ∙ t.is; within = omega (arith, ints, t.within) }

-- no number but 0 begins with a 0
zero_alone : (n b : ℕ) (more : List ℕ) → n < 2 ^ 64 → decimal n ≡ 48 ∷ b ∷ more → ⊥
zero_alone n b more few e =
    elim (cases_lt n 10) [
      | inl lt ↦
          let one : (48 + n) ∷ [] ≡ 48 ∷ b ∷ more = sym (decimal_digit n lt) ∙ e in
          too_long (48 + n) b (48 ∷ []) more one (omega arith)
      | inr le ↦
          let first : 48 < get_or (decimal n) 0 0 = first_decimal n (omega arith) few in
          let here : 48 < 48 = subst (λ (z : List ℕ). 48 < get_or z 0 0) e first in
          omega arith
    ]

-- ---- the rest of a number

-- the text is what the number has behind the digits of value, and the byte that ends it
pub record IsRest (stop low value n : ℕ) (text : List ℕ) : Type 0 where
  pub least : low ≤ n
  pub few : n < 1000000000
  pub parts : decimal value ++ text ≡ decimal n ++ stop ∷ []

-- what a text of more than the last byte begins with
record GoesOn (value b n : ℕ) : Type 0 where
  some : 0 < value
  few : value < 100000000
  next : IsNext value b n

goes_on : (stop low value n b c : ℕ) (text : List ℕ) → value < 1000000000 → IsRest stop low value n (b ∷ c ∷ text) → GoesOn value b n
goes_on stop low value n b c text few t =
    elim (cuts (decimal n) (stop ∷ []) (decimal value) (b ∷ c ∷ text) (sym t.parts)) [
      | inl p ↦ on stop value n b c text few t.few p.0 p.1 p.2
      | inr p ↦ absurd (too_long stop b (p.0 ∷ p.1) (c ∷ text) p.3 (omega arith))
    ]
  where
    on : (stop value n b c : ℕ) (text : List ℕ) → value < 1000000000 → n < 1000000000 → (r : List ℕ) → decimal n ≡ decimal value ++ r → r ++ stop ∷ [] ≡ b ∷ c ∷ text → GoesOn value b n
    on stop value n b c text few small [] front back = absurd (too_long stop c (b ∷ []) text back (omega arith))
    on stop value n b c text few small (h ∷ r) front back =
        let byte : h ≡ b = grind arith in
        let next : IsNext value b n = subst (λ z. IsNext value z n) byte ((leads value (omega arith) n (omega arith)).next h r front) in
        elim (cases_lt 0 value) [
          | inl some ↦ record { some = some; few = omega (arith, next.within); next = next }
          | inr none ↦
              let nothing : value ≡ 0 = omega arith in
              let zero_first : decimal n ≡ 48 ∷ h ∷ r = front ∙ ap (λ z. decimal z ++ h ∷ r) nothing ∙ ap (λ (z : List ℕ). z ++ h ∷ r) (decimal_digit 0 (omega arith)) in
              absurd (zero_alone n h r (omega arith) zero_first)
        ]

-- the last byte
ends : (stop low value n b : ℕ) → value < 1000000000 → IsRest stop low value n (b ∷ []) → (b ≡ stop) × (value ≡ n)
ends stop low value n b few t =
    elim (cuts (decimal n) (stop ∷ []) (decimal value) (b ∷ []) (sym t.parts)) [
      | inl p ↦ here stop value n b few t.few p.0 p.1 p.2
      | inr p ↦ absurd (too_long stop b (p.0 ∷ p.1) [] p.3 (omega arith))
    ]
  where
    here : (stop value n b : ℕ) → value < 1000000000 → n < 1000000000 → (r : List ℕ) → decimal n ≡ decimal value ++ r → r ++ stop ∷ [] ≡ b ∷ [] → (b ≡ stop) × (value ≡ n)
    here stop value n b few small [] front back =
        let byte : stop ≡ b = grind arith in
        (sym byte, sym (decimal_injective n value (omega arith) (omega arith) (front ∙ append-nil (decimal value))))
    here stop value n b few small (h ∷ r) front back = absurd (too_long b stop (h ∷ r) [] (sym back) (omega arith))

-- there is a last byte
not_ended : (stop low value n : ℕ) → stop < 48 → value < 1000000000 → IsRest stop low value n [] → ⊥
not_ended stop low value n below few t =
    let whole : decimal value ≡ decimal n ++ stop ∷ [] = sym (append-nil (decimal value)) ∙ t.parts in
    let small : n < 2 ^ 64 = omega (arith, t.few) in
    let next = (leads n small value (omega arith)).next stop [] whole in
    omega (arith, next.is)

-- ---- the reader of the rest

abbrev is_last : ℕ → ℕ → ℕ → ℕ → Bool
is_last stop low value b = eqb b stop && leb low value

abbrev is_more : ℕ → ℕ → Bool
is_more value b = ltb 0 value && ltb value 100000000 && leb 48 b && ltb b 58

-- what a reader does with the first byte
abbrev chosen : {X : Type 0} → Bool → Bool → X → X → X → X
chosen last more x y z = cond last x (cond more y z)

record IsMore (value b : ℕ) : Type 0 where
  some : 0 < value
  few : value < 100000000
  low : 48 ≤ b
  high : b < 58

more_is : (value b : ℕ) → is_more value b ≡ true → IsMore value b
more_is value b e =
    let parts = four_true (ltb 0 value) (ltb value 100000000) (leb 48 b) (ltb b 58) e in
    record { some = ltb-true 0 value parts.0; few = ltb-true value 100000000 parts.1; low = leb-true 48 b parts.2; high = ltb-true b 58 parts.3 }
  where
    four_true : (a b c d : Bool) → (a && b && c && d) ≡ true → (a ≡ true) × (b ≡ true) × (c ≡ true) × (d ≡ true)
    four_true true true true true e = (refl, refl, refl, refl)
    four_true true true true false e = absurd cc
    four_true true true false d e = absurd cc
    four_true true false c d e = absurd cc
    four_true false b c d e = absurd cc

is_more_true : (value b : ℕ) → IsMore value b → is_more value b ≡ true
is_more_true value b m = rw (lt-ltb 0 value m.some, lt-ltb value 100000000 m.few, le-leb 48 b m.low, lt-ltb b 58 m.high) refl

last_is : (stop low value b : ℕ) → is_last stop low value b ≡ true → (b ≡ stop) × (low ≤ value)
last_is stop low value b e =
    let parts = two_true (eqb b stop) (leb low value) e in
    (eqb-true b stop parts.0, leb-true low value parts.1)

is_last_true : (stop low value : ℕ) → low ≤ value → is_last stop low value stop ≡ true
is_last_true stop low value le = rw (eq-eqb stop stop refl, le-leb low value le) refl

-- with a digit more the rest is shorter by it
on_digit : (stop low value b n : ℕ) (text : List ℕ) → IsMore value b → IsRest stop low (value * 10 + (b - 48)) n text → IsRest stop low value n (b ∷ text)
on_digit stop low value b n text m t =
    let step = more_digit value (b - 48) m.some (omega (arith, m.high)) (omega (arith, m.few)) in
    let byte : 48 + (b - 48) ≡ b = omega (arith, m.low) in
    let front : decimal (value * 10 + (b - 48)) ≡ decimal value ++ b ∷ [] = rw byte at step in
    record { least = t.least; few = t.few; parts = sym (append_assoc (decimal value) (b ∷ []) text) ∙ ap (λ (z : List ℕ). z ++ text) (sym front) ∙ t.parts }

off_digit : (stop low value b n : ℕ) (text : List ℕ) → IsMore value b → IsRest stop low value n (b ∷ text) → IsRest stop low (value * 10 + (b - 48)) n text
off_digit stop low value b n text m t =
    let step = more_digit value (b - 48) m.some (omega (arith, m.high)) (omega (arith, m.few)) in
    let byte : 48 + (b - 48) ≡ b = omega (arith, m.low) in
    let front : decimal (value * 10 + (b - 48)) ≡ decimal value ++ b ∷ [] = rw byte at step in
    record { least = t.least; few = t.few; parts = ap (λ (z : List ℕ). z ++ text) front ∙ append_assoc (decimal value) (b ∷ []) text ∙ t.parts }

chosen_ok : {X : Type 0} (last more : Bool) (x y z w : X) → chosen last more x y z ≡ w → ((last ≡ true) × (x ≡ w)) ⊎ (((last ≡ false) × (more ≡ true) × (y ≡ w)) ⊎ ((last ≡ false) × (more ≡ false) × (z ≡ w)))
chosen_ok true more x y z w e = inl (refl, e)
chosen_ok false true x y z w e = inr (inl (refl, refl, e))
chosen_ok false false x y z w e = inr (inr (refl, refl, e))

digits_takes : (stop low : ℕ) (bytes : List ℕ) (value n : ℕ) (rest : List ℕ) → value < 1000000000 → digits_at stop low value bytes ≡ Ok (n, rest) → (text : List ℕ) × IsRest stop low value n text × (bytes ≡ text ++ rest)
unfolding digits_at
digits_takes stop low [] value n rest few h = absurd cc
digits_takes stop low (b ∷ bytes) value n rest few h =
    elim (chosen_ok (is_last stop low value b) (is_more value b) (Ok (value, bytes)) (digits_at stop low (value * 10 + (b - 48)) bytes) (Err (suc (length bytes))) (Ok (n, rest)) h) [
      | inl s ↦
          let same = ok_parts value n bytes rest s.1 in
          let last = last_is stop low value b s.0 in
          (b ∷ [], record { least = rw (← same.0) last.1; few = rw (← same.0) few; parts = ap (λ z. decimal z ++ b ∷ []) same.0 ∙ ap (λ z. decimal n ++ z ∷ []) last.0 }, ap (λ (z : List ℕ). b ∷ z) same.1)
      | inr s ↦ elim s [
        | inl d ↦
            let m = more_is value b d.1 in
            let t = digits_takes stop low bytes (value * 10 + (b - 48)) n rest (omega (arith, m.few, m.high)) d.2 in
            (b ∷ t.0, on_digit stop low value b n t.0 m t.1, ap (λ (z : List ℕ). b ∷ z) t.2)
        | inr d ↦ absurd (no_value d.2)
      ]
    ]

digits_again : (stop low : ℕ) → stop < 48 → (text : List ℕ) (value n : ℕ) (rest : List ℕ) → value < 1000000000 → IsRest stop low value n text → digits_at stop low value (text ++ rest) ≡ Ok (n, rest)
unfolding digits_at
digits_again stop low below [] value n rest few t = absurd (not_ended stop low value n below few t)
digits_again stop low below (b ∷ []) value n rest few t =
    let e = ends stop low value n b few t in
    let last : is_last stop low value b ≡ true = rw e.0 (is_last_true stop low value (rw e.1 t.least)) in
    rw (last, e.1) refl
digits_again stop low below (b ∷ c ∷ text) value n rest few t =
    let g = goes_on stop low value n b c text few t in
    let m : IsMore value b = record { some = g.some; few = g.few; low = omega (arith, g.next.is); high = omega (arith, g.next.is, g.next.small) } in
    let not_last : is_last stop low value b ≡ false = rw (ne_eqb b stop (λ same. omega (arith, m.low))) refl in
    let more : is_more value b ≡ true = is_more_true value b m in
    rw (not_last, more) (digits_again stop low below (c ∷ text) (value * 10 + (b - 48)) n rest (omega (arith, m.few, m.high)) (off_digit stop low value b n (c ∷ text) m t))

-- some number goes on so
digits_some : (stop low value : ℕ) → low ≤ 10 → low ≤ value * 10 → value < 1000000000 → Begins (IsRest stop low value) []
digits_some stop low value small ten few =
    elim (cases_lt value low) [
      | inl lt ↦
          let m : IsMore value 48 = record { some = omega arith; few = omega arith; low = omega arith; high = omega arith } in
          (value * 10 + (48 - 48), 48 ∷ stop ∷ [], on_digit stop low value 48 (value * 10 + (48 - 48)) (stop ∷ []) m (record { least = omega arith; few = omega arith; parts = refl }))
      | inr le ↦ (value, stop ∷ [], record { least = le; few = few; parts = refl })
    ]

digits_faults : (stop low : ℕ) → stop < 48 → low ≤ 10 → (bytes : List ℕ) (value n : ℕ) → low ≤ value * 10 → value < 1000000000 → digits_at stop low value bytes ≡ Err n → Faults (IsRest stop low value) bytes n
unfolding digits_at
digits_faults stop low below small [] value n ten few h =
    record { seen = []; left = []; parts = refl; count = err_is h; begins = digits_some stop low value small ten few; stops = λ b more split begun. absurd (nothing split) }
digits_faults stop low below small (b ∷ bytes) value n ten few h =
    elim (chosen_ok (is_last stop low value b) (is_more value b) (Ok (value, bytes)) (digits_at stop low (value * 10 + (b - 48)) bytes) (Err (suc (length bytes))) (Err n) h) [
      | inl s ↦ absurd (no_fault s.1)
      | inr s ↦ elim s [
        | inl d ↦
            let m = more_is value b d.1 in
            let f = digits_faults stop low below small bytes (value * 10 + (b - 48)) n (omega (arith, m.some)) (omega (arith, m.few, m.high)) d.2 in
            record {
              seen = b ∷ f.seen;
              left = f.left;
              parts = ap (λ (z : List ℕ). b ∷ z) f.parts;
              count = f.count;
              begins = (f.begins.0, f.begins.1, on_digit stop low value b f.begins.0 (f.seen ++ f.begins.1) m f.begins.2);
              stops = λ c more split begun. f.stops c more split (begun.0, begun.1, off_digit stop low value b begun.0 ((f.seen ++ c ∷ []) ++ begun.1) m begun.2);
            }
        | inr d ↦
            record {
              seen = [];
              left = b ∷ bytes;
              parts = refl;
              count = err_is d.2;
              begins = digits_some stop low value small ten few;
              stops = λ c more split begun.
                  let same : b ≡ c = heads split in
                  refused stop low value b below few d.0 d.1 begun.0 begun.1 (subst (λ z. IsRest stop low value begun.0 (z ∷ begun.1)) (sym same) begun.2);
            }
      ]
    ]
  where
    refused : (stop low value b : ℕ) → stop < 48 → value < 1000000000 → is_last stop low value b ≡ false → is_more value b ≡ false → (n : ℕ) (text : List ℕ) → IsRest stop low value n (b ∷ text) → ⊥
    refused stop low value b below few last more n [] t =
        let e = ends stop low value n b few t in
        let yes : is_last stop low value b ≡ true = rw e.0 (is_last_true stop low value (rw e.1 t.least)) in
        cc
    refused stop low value b below few last more n (c ∷ text) t =
        let g = goes_on stop low value n b c text few t in
        let yes : is_more value b ≡ true = is_more_true value b (record { some = g.some; few = g.few; low = omega (arith, g.next.is); high = omega (arith, g.next.is, g.next.small) }) in
        cc

digits_exact : (stop low value : ℕ) → stop < 48 → low ≤ 10 → low ≤ value * 10 → value < 1000000000 → Exact (IsRest stop low value) (digits_at stop low value)
digits_exact stop low value below small ten few = record {
  takes = λ bytes n rest h. digits_takes stop low bytes value n rest few h;
  again = λ n text rest t. digits_again stop low below text value n rest few t;
  faults = λ bytes n h. digits_faults stop low below small bytes value n ten few h;
  some = digits_some stop low value small ten few;
}

-- ---- whole numbers

-- the text is the number, and the byte that ends it
pub record IsNumber (stop low n : ℕ) (text : List ℕ) : Type 0 where
  pub least : low ≤ n
  pub few : n < 1000000000
  pub text_is : text ≡ decimal n ++ stop ∷ []

-- the first digit of a number
record Begun (n : ℕ) (ds : List ℕ) : Type 0 where
  first : ℕ
  more : List ℕ
  small : first < 10
  is : ds ≡ (48 + first) ∷ more
  some : 0 < n → 0 < first
  only : n ≡ 0 → first ≡ 0

begun_with : (n : ℕ) → n < 2 ^ 64 → Begun n (decimal n)
begun_with n few = decimal_by_steps Begun
    (λ n lt. record { first = n; more = []; small = lt; is = refl; some = λ h. h; only = λ h. h })
    (λ n ds ten before. record {
      first = before.first;
      more = before.more ++ (48 + n % 10) ∷ [];
      small = before.small;
      is = ap (λ (z : List ℕ). z ++ (48 + n % 10) ∷ []) before.is;
      some = λ h. before.some (omega (arith, ints));
      only = λ h. absurd (omega arith);
    })
    n few

abbrev is_zero : ℕ → ℕ → Bool
is_zero low b = eqb b 48 && eqb low 0

abbrev is_first : ℕ → Bool
is_first b = ltb 48 b && ltb b 58

zero_is : (low b : ℕ) → is_zero low b ≡ true → (b ≡ 48) × (low ≡ 0)
zero_is low b e = let parts = two_true (eqb b 48) (eqb low 0) e in (eqb-true b 48 parts.0, eqb-true low 0 parts.1)

first_is : (b : ℕ) → is_first b ≡ true → (48 < b) × (b < 58)
first_is b e = let parts = two_true (ltb 48 b) (ltb b 58) e in (ltb-true 48 b parts.0, ltb-true b 58 parts.1)

-- the rest behind a first digit makes the number
behind_first : (stop low first n : ℕ) (text : List ℕ) → first < 10 → IsRest stop low first n text → IsNumber stop low n ((48 + first) ∷ text)
behind_first stop low first n text small t =
    record { least = t.least; few = t.few; text_is = ap (λ (z : List ℕ). z ++ text) (sym (decimal_digit first small)) ∙ t.parts }

without_first : (stop low first n : ℕ) (text : List ℕ) → first < 10 → IsNumber stop low n ((48 + first) ∷ text) → IsRest stop low first n text
without_first stop low first n text small t =
    record { least = t.least; few = t.few; parts = ap (λ (z : List ℕ). z ++ text) (decimal_digit first small) ∙ t.text_is }

-- how a number begins: what the reader asks of its first byte
record Start (stop low n : ℕ) (text : List ℕ) : Type 0 where
  first : ℕ
  rest : List ℕ
  text_is : text ≡ (48 + first) ∷ rest
  small : first < 10
  behind : IsRest stop low first n rest
  zero : (first ≡ 0) → low ≡ 0

start : (stop low n : ℕ) (text : List ℕ) → IsNumber stop low n text → Start stop low n text
start stop low n text t =
    let f = begun_with n (omega (arith, t.few)) in
    let here : text ≡ (48 + f.first) ∷ f.more ++ stop ∷ [] = t.text_is ∙ ap (λ (z : List ℕ). z ++ stop ∷ []) f.is in
    record {
      first = f.first;
      rest = f.more ++ stop ∷ [];
      text_is = here;
      small = f.small;
      behind = without_first stop low f.first n (f.more ++ stop ∷ []) f.small (subst (IsNumber stop low n) here t);
      zero = λ none. elim (cases_lt 0 n) [ inl some ↦ absurd (omega (arith, f.some some)) | inr le ↦ omega (arith, t.least) ];
    }

number_takes : (stop low : ℕ) (bytes : List ℕ) (n : ℕ) (rest : List ℕ) → number_at stop low bytes ≡ Ok (n, rest) → (text : List ℕ) × IsNumber stop low n text × (bytes ≡ text ++ rest)
unfolding number_at
number_takes stop low [] n rest h = absurd cc
number_takes stop low (b ∷ bytes) n rest h =
    elim (chosen_ok (is_zero low b) (is_first b) (digits_at stop low 0 bytes) (digits_at stop low (b - 48) bytes) (Err (suc (length bytes))) (Ok (n, rest)) h) [
      | inl s ↦
          let t = digits_takes stop low bytes 0 n rest (omega arith) s.1 in
          let byte : 48 + 0 ≡ b = omega (arith, (zero_is low b s.0).0) in
          (b ∷ t.0, subst (λ z. IsNumber stop low n (z ∷ t.0)) byte (behind_first stop low 0 n t.0 (omega arith) t.1), ap (λ (z : List ℕ). b ∷ z) t.2)
      | inr s ↦ elim s [
        | inl d ↦
            let f = first_is b d.1 in
            let t = digits_takes stop low bytes (b - 48) n rest (omega (arith, f.1)) d.2 in
            let byte : 48 + (b - 48) ≡ b = omega (arith, f.0) in
            (b ∷ t.0, subst (λ z. IsNumber stop low n (z ∷ t.0)) byte (behind_first stop low (b - 48) n t.0 (omega (arith, f.1)) t.1), ap (λ (z : List ℕ). b ∷ z) t.2)
        | inr d ↦ absurd (no_value d.2)
      ]
    ]

number_again : (stop low : ℕ) → stop < 48 → (n : ℕ) (text rest : List ℕ) → IsNumber stop low n text → number_at stop low (text ++ rest) ≡ Ok (n, rest)
unfolding number_at
number_again stop low below n text rest t =
    let s = start stop low n text t in
    elim (cases_lt 0 s.first) [
      | inl some ↦
          let not_zero : is_zero low (48 + s.first) ≡ false = rw (ne_eqb (48 + s.first) 48 (λ same. omega arith)) refl in
          let yes : is_first (48 + s.first) ≡ true = rw (lt-ltb 48 (48 + s.first) (omega arith), lt-ltb (48 + s.first) 58 (omega (arith, s.small))) refl in
          let value : (48 + s.first) - 48 ≡ s.first = omega arith in
          rw (s.text_is, not_zero, yes, value) (digits_again stop low below s.rest s.first n rest (omega (arith, s.small)) s.behind)
      | inr none ↦
          let nothing : s.first ≡ 0 = omega arith in
          let zero_here : is_zero low (48 + s.first) ≡ true = rw (eq-eqb (48 + s.first) 48 (omega arith), eq-eqb low 0 (s.zero nothing)) refl in
          rw (s.text_is, zero_here) (digits_again stop low below s.rest 0 n rest (omega arith) (subst (λ z. IsRest stop low z n s.rest) nothing s.behind))
    ]

refused_first : (stop low b : ℕ) → is_zero low b ≡ false → is_first b ≡ false → (n : ℕ) (text : List ℕ) → IsNumber stop low n (b ∷ text) → ⊥
refused_first stop low b not_zero not_first n text t =
    let s = start stop low n (b ∷ text) t in
    let byte : b ≡ 48 + s.first = heads s.text_is in
    elim (cases_lt 0 s.first) [
      | inl some ↦
          let yes : is_first b ≡ true = rw (lt-ltb 48 b (omega (arith, byte)), lt-ltb b 58 (omega (arith, byte, s.small))) refl in
          cc
      | inr none ↦
          let yes : is_zero low b ≡ true = rw (eq-eqb b 48 (omega (arith, byte)), eq-eqb low 0 (s.zero (omega arith))) refl in
          cc
    ]

wrapped : (stop low first n b : ℕ) (bytes : List ℕ) → first < 10 → 48 + first ≡ b → Faults (IsRest stop low first) bytes n → Faults (IsNumber stop low) (b ∷ bytes) n
wrapped stop low first n b bytes small byte f =
    record {
      seen = b ∷ f.seen;
      left = f.left;
      parts = ap (λ (z : List ℕ). b ∷ z) f.parts;
      count = f.count;
      begins = (f.begins.0, f.begins.1, subst (λ z. IsNumber stop low f.begins.0 (z ∷ f.seen ++ f.begins.1)) byte (behind_first stop low first f.begins.0 (f.seen ++ f.begins.1) small f.begins.2));
      stops = λ c more split begun. f.stops c more split (begun.0, begun.1, without_first stop low first begun.0 ((f.seen ++ c ∷ []) ++ begun.1) small (subst (λ z. IsNumber stop low begun.0 (z ∷ (f.seen ++ c ∷ []) ++ begun.1)) (sym byte) begun.2));
    }

number_faults : (stop low : ℕ) → stop < 48 → low ≤ 10 → (bytes : List ℕ) (n : ℕ) → number_at stop low bytes ≡ Err n → Faults (IsNumber stop low) bytes n
unfolding number_at
number_faults stop low below small [] n h =
    record { seen = []; left = []; parts = refl; count = err_is h; begins = (low, decimal low ++ stop ∷ [], record { least = omega arith; few = omega arith; text_is = refl }); stops = λ b more split begun. absurd (nothing split) }
number_faults stop low below small (b ∷ bytes) n h =
    elim (chosen_ok (is_zero low b) (is_first b) (digits_at stop low 0 bytes) (digits_at stop low (b - 48) bytes) (Err (suc (length bytes))) (Err n) h) [
      | inl s ↦
          let z = zero_is low b s.0 in
          wrapped stop low 0 n b bytes (omega arith) (omega (arith, z.0)) (digits_faults stop low below small bytes 0 n (omega (arith, z.1)) (omega arith) s.1)
      | inr s ↦ elim s [
        | inl d ↦
            let f = first_is b d.1 in
            wrapped stop low (b - 48) n b bytes (omega (arith, f.1)) (omega (arith, f.0)) (digits_faults stop low below small bytes (b - 48) n (omega (arith, f.0)) (omega (arith, f.1)) d.2)
        | inr d ↦
            record {
              seen = [];
              left = b ∷ bytes;
              parts = refl;
              count = err_is d.2;
              begins = (low, decimal low ++ stop ∷ [], record { least = omega arith; few = omega arith; text_is = refl });
              stops = λ c more split begun.
                  let same : b ≡ c = heads split in
                  refused_first stop low b d.0 d.1 begun.0 begun.1 (subst (λ z. IsNumber stop low begun.0 (z ∷ begun.1)) (sym same) begun.2);
            }
      ]
    ]

-- a number and the byte that ends it, which is none of the digits
pub number_exact : (stop low : ℕ) → stop < 48 → low ≤ 10 → Exact (IsNumber stop low) (number_at stop low)
number_exact stop low below small = record {
  takes = number_takes stop low;
  again = λ n text rest t. number_again stop low below n text rest t;
  faults = λ bytes n h. number_faults stop low below small bytes n h;
  some = (low, decimal low ++ stop ∷ [], record { least = omega arith; few = omega arith; text_is = refl });
}
