-- What ways count: ways end to end, ways times one way, and ways times the square root of two.
use Rattle.std.proofs.Common.{◌≡◌, ℕ, Bool, true, false, List, [], ◌∷◌, ◌++◌, map, sym, ap, ◌∙◌, refl, arith}
use Rattle.std.specs.Prelude.{ℤ, pos, ◌+ℤ◌, ◌-ℤ◌, ◌*ℤ◌, neg_ℤ, if◌then◌else◌}
use Rattle.std.proofs.Math.IntN.{+ℤ_assoc, +ℤ_idl}
use Rattle.std.proofs.lemmas.Int.{ints}
use Rattle.qz_circ.specs.Exponent.{Exponent, IsExponent, plus, minus, with_turns, same_exponent, turn_of}
use Rattle.qz_circ.specs.Paths.{Path, total, count, times, products, root2_once}
use Rattle.qz_circ.proofs.SignedWays.{signed, sign_of, one_way, AreProper}
use Rattle.qz_circ.proofs.Exponents.{same_like, plus_there, plus_back, minus_proper, turned_proper, with_turns-minus, exponent_eq}

-- proper ways end to end are proper
pub AreProper-append : (ps rs : List Path) → AreProper ps → AreProper rs → AreProper (ps ++ rs)
AreProper-append [] rs h k = k
AreProper-append (p ∷ ps) rs h k = (h.0, AreProper-append ps rs h.1 k)

-- times a sign
times-sign : (b : Bool) (z : ℤ) → z *ℤ sign_of b ≡ signed b z
times-sign true z = omega (arith, ints)
times-sign false z = omega (arith, ints)

-- a sign goes over a sum
pub signed-add : (b : Bool) (y z : ℤ) → signed b (y +ℤ z) ≡ signed b y +ℤ signed b z
signed-add true y z = omega (arith, ints)
signed-add false y z = refl

-- a sign goes over a difference
pub signed-sub : (b : Bool) (y z : ℤ) → signed b (y -ℤ z) ≡ signed b y -ℤ signed b z
signed-sub true y z = omega (arith, ints)
signed-sub false y z = refl

-- ways end to end
total-append : (ps rs : List Path) (e : Exponent) → total (ps ++ rs) e ≡ total ps e +ℤ total rs e
unfolding total
total-append [] rs e = sym (+ℤ_idl (total rs e))
total-append (p ∷ ps) rs e =
    let here = if same_exponent p.exponent e then p.sign else pos 0 in
    ap (λ z. here +ℤ z) (total-append ps rs e) ∙ sym (+ℤ_assoc here (total ps e) (total rs e))

-- no way counts nothing
pub count-none : (e : Exponent) → count [] e ≡ pos 0
unfolding count total
count-none e = refl

-- a difference of sums
sub-sums : (a b c d : ℤ) → (a +ℤ b) -ℤ (c +ℤ d) ≡ (a -ℤ c) +ℤ (b -ℤ d)
sub-sums a b c d = omega (arith, ints)

-- ways end to end count both
pub count-append : (ps rs : List Path) (e : Exponent) → count (ps ++ rs) e ≡ count ps e +ℤ count rs e
unfolding count
count-append ps rs e =
    let here = total-append ps rs e in
    let half = total-append ps rs (with_turns e 256) in
    (λ d. here d -ℤ half d) ∙ sub-sums (total ps e) (total rs e) (total ps (with_turns e 256)) (total rs (with_turns e 256))

-- the exponents of products are proper
pub AreProper-products : (ps rs : List Path) → AreProper (products ps rs)
AreProper-products [] rs = tt
AreProper-products (p ∷ ps) rs = AreProper-append (map (times p) rs) (products ps rs) (row p rs) (AreProper-products ps rs)
  where
    row : (p : Path) (rs : List Path) → AreProper (map (times p) rs)
    row p [] = tt
    row p (r ∷ rs) = (omega arith, row p rs)

-- what one way adds to the total
part_times : (b : Bool) (p : Path) (x e : Exponent) → IsExponent p.exponent → IsExponent x → IsExponent e → (if same_exponent (plus p.exponent x) e then p.sign *ℤ sign_of b else pos 0) ≡ signed b (if same_exponent p.exponent (minus e x) then p.sign else pos 0)
part_times b p x e hp hx he =
    let tests = same_like (plus p.exponent x) e p.exponent (minus e x) (plus_there p.exponent x e hp hx he) (plus_back p.exponent x e hp hx he) in
    rw tests (picked b p.sign (same_exponent p.exponent (minus e x)))
  where
    picked : (b : Bool) (s : ℤ) (t : Bool) → (if t then s *ℤ sign_of b else pos 0) ≡ signed b (if t then s else pos 0)
    picked b s true = times-sign b s
    picked true s false = refl
    picked false s false = refl

-- the signs of ways times one way
total-times_one : (b : Bool) (x : Exponent) (ps : List Path) (e : Exponent) → AreProper ps → IsExponent x → IsExponent e → total (products ps (one_way b x)) e ≡ signed b (total ps (minus e x))
unfolding total
total-times_one true x [] e hp hx he = refl
total-times_one false x [] e hp hx he = refl
total-times_one b x (p ∷ ps) e hp hx he =
    let rest = total-times_one b x ps e hp.1 hx he in
    let here = part_times b p x e hp.0 hx he in
    let both = signed-add b (if same_exponent p.exponent (minus e x) then p.sign else pos 0) (total ps (minus e x)) in
    (λ i. here i +ℤ rest i) ∙ sym both

-- ways times none have no signs
total-times_none : (ps : List Path) (e : Exponent) → total (products ps []) e ≡ pos 0
unfolding total
total-times_none [] e = refl
total-times_none (p ∷ ps) e = total-times_none ps e

-- ways times one way
pub count-times_one : (b : Bool) (x : Exponent) (ps : List Path) (e : Exponent) → AreProper ps → IsExponent x → IsExponent e → count (products ps (one_way b x)) e ≡ signed b (count ps (minus e x))
unfolding count
count-times_one b x ps e hp hx he =
    let here = total-times_one b x ps e hp hx he in
    let half = total-times_one b x ps (with_turns e 256) hp hx (turned_proper e 256) ∙ ap (λ y. signed b (total ps y)) (with_turns-minus e x 256) in
    (λ i. here i -ℤ half i) ∙ sym (signed-sub b (total ps (minus e x)) (total ps (with_turns (minus e x) 256)))

-- ways times none count nothing
pub count-times_none : (ps : List Path) (e : Exponent) → count (products ps []) e ≡ pos 0
unfolding count
count-times_none ps e =
    let here = total-times_none ps e in
    let half = total-times_none ps (with_turns e 256) in
    (λ d. here d -ℤ half d)

-- ways times the square root of two are proper
pub AreProper-root2_once : (ps : List Path) → AreProper (root2_once ps)
unfolding root2_once
AreProper-root2_once [] = tt
AreProper-root2_once (p ∷ ps) = (omega arith, (omega arith, AreProper-root2_once ps))

-- to turn on is to multiply by a turn alone
plus-turn_of : (p : Exponent) (k : ℕ) → plus p (turn_of k) ≡ with_turns p k
plus-turn_of p k = exponent_eq (plus p (turn_of k)) (with_turns p k) (omega arith) (omega (arith, ints)) (omega (arith, ints)) (omega (arith, ints))

-- what one way adds, turned
part_turned : (s : ℤ) (p : Exponent) (k : ℕ) (e : Exponent) → IsExponent p → IsExponent e → (if same_exponent (with_turns p k) e then s else pos 0) ≡ (if same_exponent p (minus e (turn_of k)) then s else pos 0)
part_turned s p k e hp he =
    let turn_proper : IsExponent (turn_of k) = omega arith in
    let same = plus-turn_of p k in
    ap (λ (t : Bool). if t then s else pos 0)
    (same_like (with_turns p k) e p (minus e (turn_of k)) (λ h. plus_there p (turn_of k) e hp turn_proper he (same ∙ h)) (λ h. sym same ∙ plus_back p (turn_of k) e hp turn_proper he h))

-- the opposite of what one way adds
part_negated : (s : ℤ) (t : Bool) → (if t then neg_ℤ s else pos 0) ≡ neg_ℤ (if t then s else pos 0)
part_negated s true = refl
part_negated s false = refl

-- a part added, less a part taken away
added : (r a b x y c d : ℤ) → r ≡ c -ℤ d → a ≡ x → b ≡ neg_ℤ y → a +ℤ (b +ℤ r) ≡ (x +ℤ c) -ℤ (y +ℤ d)
added r a b x y c d h k l = omega (arith, ints)

-- ways times the square root of two
total-root2_once : (ps : List Path) (e : Exponent) → AreProper ps → IsExponent e → total (root2_once ps) e ≡ total ps (minus e (turn_of 64)) -ℤ total ps (minus e (turn_of 192))
unfolding total root2_once
total-root2_once [] e hp he = refl
total-root2_once (p ∷ ps) e hp he =
    let rest = total-root2_once ps e hp.1 he in
    let first = part_turned p.sign p.exponent 64 e hp.0 he in
    let second = part_turned (neg_ℤ p.sign) p.exponent 192 e hp.0 he ∙ part_negated p.sign (same_exponent p.exponent (minus e (turn_of 192))) in
    added _ _ _ _ _ _ _ rest first second

-- a difference of differences
sub-differences : (a b c d : ℤ) → (a -ℤ b) -ℤ (c -ℤ d) ≡ (a -ℤ c) -ℤ (b -ℤ d)
sub-differences a b c d = omega (arith, ints)

-- ways times the square root of two count as two turned ways do, one less the other
pub count-root2_once : (ps : List Path) (e : Exponent) → AreProper ps → IsExponent e → count (root2_once ps) e ≡ count ps (minus e (turn_of 64)) -ℤ count ps (minus e (turn_of 192))
unfolding count
count-root2_once ps e hp he =
    let here = total-root2_once ps e hp he in
    let half = total-root2_once ps (with_turns e 256) hp (turned_proper e 256) in
    let left = ap (total ps) (with_turns-minus e (turn_of 64) 256) in
    let right = ap (total ps) (with_turns-minus e (turn_of 192) 256) in
    let low = minus e (turn_of 64) in
    let high = minus e (turn_of 192) in
    (λ d. here d -ℤ half d) ∙ (λ d. (total ps low -ℤ total ps high) -ℤ (left d -ℤ right d)) ∙
    sub-differences (total ps low) (total ps high) (total ps (with_turns low 256)) (total ps (with_turns high 256))

-- a difference the other way round
sub-back : (a b : ℤ) → a -ℤ b ≡ neg_ℤ (b -ℤ a)
sub-back a b = omega (arith, ints)

-- half a circle further, the count has the other sign
count-half : (ps : List Path) (e : Exponent) → IsExponent e → count ps (with_turns e 256) ≡ neg_ℤ (count ps e)
unfolding count
count-half ps e he =
    let back : with_turns (with_turns e 256) 256 ≡ e = exponent_eq (with_turns (with_turns e 256) 256) e (omega arith) refl refl refl in
    ap (λ (d : Exponent). total ps (with_turns e 256) -ℤ total ps d) back ∙ sub-back (total ps (with_turns e 256)) (total ps e)

-- two turns back are as many turns forward as make up a circle
two_back : (e : Exponent) (j k m : ℕ) → (minus (minus e (turn_of j)) (turn_of k)).turn ≡ (with_turns e m).turn → minus (minus e (turn_of j)) (turn_of k) ≡ with_turns e m
two_back e j k m turns = exponent_eq (minus (minus e (turn_of j)) (turn_of k)) (with_turns e m) turns (less_none e.x0) (less_none e.x1) (less_none e.x2)
  where
    less_none : (z : ℤ) → (z -ℤ pos 0) -ℤ pos 0 ≡ z
    less_none z = omega (arith, ints)

-- a number twice, where another one cancels
doubled : (a l : ℤ) → (l -ℤ neg_ℤ a) -ℤ (neg_ℤ a -ℤ neg_ℤ l) ≡ a +ℤ a
doubled a l = omega (arith, ints)

-- the square root of two, twice, doubles the count
pub count-root2_twice : (ps : List Path) (e : Exponent) → AreProper ps → IsExponent e → count (root2_once (root2_once ps)) e ≡ count ps e +ℤ count ps e
count-root2_twice ps e hp he =
    let low = minus e (turn_of 64) in
    let high = minus e (turn_of 192) in
    let lowest = minus low (turn_of 64) in
    let outer = count-root2_once (root2_once ps) e (AreProper-root2_once ps) he in
    let at_low = count-root2_once ps low hp (minus_proper e (turn_of 64)) in
    let at_high = count-root2_once ps high hp (minus_proper e (turn_of 192)) in
    let past : minus high (turn_of 192) ≡ with_turns lowest 256 = exponent_eq (minus high (turn_of 192)) (with_turns lowest 256) (omega arith) refl refl refl in
    let first = ap (count ps) (two_back e 64 192 256 (omega arith)) ∙ count-half ps e he in
    let second = ap (count ps) (two_back e 192 64 256 (omega arith)) ∙ count-half ps e he in
    let third = ap (count ps) past ∙ count-half ps lowest (minus_proper low (turn_of 64)) in
    outer ∙ (λ d. at_low d -ℤ at_high d) ∙ (λ d. (count ps lowest -ℤ first d) -ℤ (second d -ℤ third d)) ∙ doubled (count ps e) (count ps lowest)
