-- Ways that count nothing have no weight, for each weight of signs that goes over sums and turns over at half a circle. So a change
-- of exponents that keeps half circles takes ways that count nothing to such ways.
use Rattle.std.proofs.Common.{◌≡◌, ℕ, zero, suc, ◌≤◌, Bool, true, false, not, List, [], ◌∷◌, map, length, refl, sym, ap, ◌∙◌, arith}
use Rattle.std.specs.Prelude.{ℤ, pos, ◌+ℤ◌, ◌-ℤ◌, neg_ℤ, ◌||◌, filter, if◌then◌else◌}
use Rattle.std.proofs.lemmas.Int.{ints}
use Rattle.std.proofs.lemmas.List.Sums.{length-filter, count_by-le-length}
use Rattle.qz_circ.specs.Exponent.{Exponent, IsExponent, with_turns, same_exponent}
use Rattle.qz_circ.specs.Paths.{Path, total, count}
use Rattle.qz_circ.proofs.SignedWays.{AreProper}
use Rattle.qz_circ.proofs.RisingLists.{each_weaker, each-filter}
use Rattle.qz_circ.proofs.Exponents.{Decides-same_exponent, exponent_eq, same_like}

-- the exponent half a circle further
abbrev pub opposite : Exponent → Exponent
opposite e = with_turns e 256

-- what a sign at an exponent weighs
abbrev pub Weight : Type 0
Weight = Exponent → ℤ → ℤ

-- it goes over differences, and half a circle further it is the opposite
pub record IsWeight (h : Weight) : Type 0 where
  pub differences : (e : Exponent) (x y : ℤ) → h e (x -ℤ y) ≡ h e x -ℤ h e y
  pub halves : (e : Exponent) (x : ℤ) → IsExponent e → h (opposite e) x ≡ neg_ℤ (h e x)

-- the weight of ways
abbrev pub weigh : Weight → List Path → ℤ
weigh h [] = pos 0
weigh h (p ∷ ps) = h p.exponent p.sign +ℤ weigh h ps

-- the way has the exponent or the opposite one
abbrev is_at : Exponent → Path → Bool
is_at e p = same_exponent p.exponent e || same_exponent p.exponent (opposite e)

-- the ways that do not
abbrev others : Exponent → List Path → List Path
others e ps = filter (λ p. not (is_at e p)) ps

-- ---- ways that count nothing

-- nothing weighs nothing
no_weight : (h : Weight) → IsWeight h → (e : Exponent) → h e (pos 0) ≡ pos 0
no_weight h is e = by (h e (pos 0)) (is.differences e (pos 0) (pos 0))
  where
    by : (z : ℤ) → z ≡ z -ℤ z → z ≡ pos 0
    by z same = omega (arith, ints)

-- a weight goes over sums of differences
sums : (h : Weight) → IsWeight h → (e : Exponent) (x y z w : ℤ) → h e ((x +ℤ y) -ℤ (z +ℤ w)) ≡ (h e x -ℤ h e z) +ℤ h e (y -ℤ w)
sums h is e x y z w =
    let grouped : (x +ℤ y) -ℤ (z +ℤ w) ≡ (x -ℤ z) -ℤ (w -ℤ y) = omega (arith, ints) in
    let first = is.differences e (x -ℤ z) (w -ℤ y) in
    let second = is.differences e x z in
    let third = is.differences e w y in
    let fourth = is.differences e y w in
    ap (h e) grouped ∙ first ∙ (λ d. second d -ℤ third d) ∙ joined (h e x) (h e z) (h e w) (h e y) ∙ sym (λ d. (h e x -ℤ h e z) +ℤ fourth d)
  where
    joined : (a b c d : ℤ) → (a -ℤ b) -ℤ (c -ℤ d) ≡ (a -ℤ b) +ℤ (d -ℤ c)
    joined a b c d = omega (arith, ints)

-- the weight of ways is what those elsewhere weigh, and what their count of an exponent weighs there
split : (h : Weight) → IsWeight h → (e : Exponent) (ps : List Path) → IsExponent e → weigh h ps ≡ weigh h (others e ps) +ℤ h e (count ps e)
unfolding count total
split h is e [] he = let none = no_weight h is e in omega (arith, ints)
split h is e (p ∷ ps) he =
    by (same_exponent p.exponent e) (same_exponent p.exponent (opposite e)) (Decides-same_exponent p.exponent e).0 (Decides-same_exponent p.exponent (opposite e)).0 (split h is e ps he)
  where
    by : (b c : Bool) → (b ≡ true → p.exponent ≡ e) → (c ≡ true → p.exponent ≡ opposite e) → weigh h ps ≡ weigh h (others e ps) +ℤ h e (count ps e) →
        h p.exponent p.sign +ℤ weigh h ps ≡ weigh h (if not (b || c) then p ∷ others e ps else others e ps) +ℤ h e (((if b then p.sign else pos 0) +ℤ total ps e) -ℤ ((if c then p.sign else pos 0) +ℤ total ps (opposite e)))
    by true true first second rest =
        let turns = ap (λ (x : Exponent). x.turn) (sym (first refl) ∙ second refl) in
        absurd (omega arith)
    by true false first second rest =
        let here = ap (λ x. h x p.sign) (first refl) in
        let parts = sums h is e p.sign (total ps e) (pos 0) (total ps (opposite e)) in
        let none = no_weight h is e in
        omega (arith, ints)
    by false true first second rest =
        let here = ap (λ x. h x p.sign) (second refl) in
        let there = is.halves e p.sign he in
        let parts = sums h is e (pos 0) (total ps e) p.sign (total ps (opposite e)) in
        let none = no_weight h is e in
        omega (arith, ints)
    by false false first second rest =
        let parts = sums h is e (pos 0) (total ps e) (pos 0) (total ps (opposite e)) in
        omega (arith, ints)

-- ---- counts as weights

-- what a sign at an exponent counts at x
at : Exponent → Weight
at x y z = (if same_exponent y x then z else pos 0) -ℤ (if same_exponent y (opposite x) then z else pos 0)

-- what ways count at x is their weight
count_is : (ps : List Path) (x : Exponent) → count ps x ≡ weigh (at x) ps
unfolding count total at
count_is [] x = refl
count_is (p ∷ ps) x = let rest = count_is ps x in
    grouped (if same_exponent p.exponent x then p.sign else pos 0) (total ps x) (if same_exponent p.exponent (opposite x) then p.sign else pos 0) (total ps (opposite x)) ∙
    (λ d. at x p.exponent p.sign +ℤ rest d)
  where
    grouped : (a b c d : ℤ) → (a +ℤ b) -ℤ (c +ℤ d) ≡ (a -ℤ c) +ℤ (b -ℤ d)
    grouped a b c d = omega (arith, ints)

-- half a circle twice
pub opposite_twice : (e : Exponent) → IsExponent e → opposite (opposite e) ≡ e
opposite_twice e he = exponent_eq (opposite (opposite e)) e (omega arith) refl refl refl

-- it is a weight
at_is_weight : (x : Exponent) → IsExponent x → IsWeight (at x)
unfolding at
at_is_weight x hx = record {
  differences = λ e y z. differ (same_exponent e x) (same_exponent e (opposite x)) y z;
  halves = λ e z he.
      let first = same_like (opposite e) x e (opposite x) (λ h. sym (opposite_twice e he) ∙ ap opposite h) (λ h. ap opposite h ∙ opposite_twice x hx) in
      let second = same_like (opposite e) (opposite x) e x (λ h. sym (opposite_twice e he) ∙ ap opposite h ∙ opposite_twice x hx) (ap opposite) in
      (λ d. (if first d then z else pos 0) -ℤ (if second d then z else pos 0)) ∙ back (if same_exponent e (opposite x) then z else pos 0) (if same_exponent e x then z else pos 0);
}
  where
    back : (a b : ℤ) → a -ℤ b ≡ neg_ℤ (b -ℤ a)
    back a b = omega (arith, ints)

    differ : (b c : Bool) (y z : ℤ) → (if b then y -ℤ z else pos 0) -ℤ (if c then y -ℤ z else pos 0) ≡ ((if b then y else pos 0) -ℤ (if c then y else pos 0)) -ℤ ((if b then z else pos 0) -ℤ (if c then z else pos 0))
    differ true true y z = omega (arith, ints)
    differ true false y z = omega (arith, ints)
    differ false true y z = omega (arith, ints)
    differ false false y z = refl

-- ---- ways that count nothing

-- at no exponent
abbrev pub CountNothing : List Path → Type 0
CountNothing ps = (e : Exponent) → IsExponent e → count ps e ≡ pos 0

-- nor do those elsewhere
others_nothing : (e : Exponent) (ps : List Path) → IsExponent e → CountNothing ps → CountNothing (others e ps)
others_nothing e ps he none x hx =
    let is = at_is_weight x hx in
    let parts = split (at x) is e ps he in
    let whole = sym (count_is ps x) ∙ none x hx in
    let part = ap (at x e) (none e he) ∙ no_weight (at x) is e in
    count_is (others e ps) x ∙ left (weigh (at x) ps) (weigh (at x) (others e ps)) (at x e (count ps e)) parts whole part
  where
    left : (a b c : ℤ) → a ≡ b +ℤ c → a ≡ pos 0 → c ≡ pos 0 → b ≡ pos 0
    left a b c h k l = omega (arith, ints)

-- the ways elsewhere than the first are fewer
fewer : (p : Path) (ps : List Path) → length (others p.exponent (p ∷ ps)) ≤ length ps
fewer p ps =
    let first = (Decides-same_exponent p.exponent p.exponent).1 refl in
    let shorter = ap (λ b. length (if not (b || same_exponent p.exponent (opposite p.exponent)) then p ∷ others p.exponent ps else others p.exponent ps)) first in
    omega (arith, length-filter (λ r. not (is_at p.exponent r)) ps, count_by-le-length (λ r. not (is_at p.exponent r)) ps)

-- those elsewhere are proper
others_proper : (e : Exponent) (ps : List Path) → AreProper ps → AreProper (others e ps)
others_proper e ps hp = each_weaker (λ p. IsExponent p.exponent × (not (is_at e p) ≡ true)) (λ p. IsExponent p.exponent) (λ p h. h.0) (others e ps) (each-filter (λ p. IsExponent p.exponent) (λ p. not (is_at e p)) ps hp)

-- ways that count nothing weigh nothing
pub weigh_nothing : (h : Weight) → IsWeight h → (n : ℕ) (ps : List Path) → length ps ≤ n → AreProper ps → CountNothing ps → weigh h ps ≡ pos 0
weigh_nothing h is n [] few hp none = refl
weigh_nothing h is zero (p ∷ ps) few hp none = absurd (omega arith)
weigh_nothing h is (suc n) (p ∷ ps) few hp none =
    let e = p.exponent in
    let less = fewer p ps in
    let rest = weigh_nothing h is n (others e (p ∷ ps)) (omega arith) (others_proper e (p ∷ ps) hp) (others_nothing e (p ∷ ps) hp.0 none) in
    split h is e (p ∷ ps) hp.0 ∙ (λ d. rest d +ℤ (ap (h e) (none e hp.0) ∙ no_weight h is e) d)

-- ---- changed exponents

-- the way with its exponent changed
abbrev pub moved : (Exponent → Exponent) → Path → Path
moved s p = record { sign = p.sign; exponent = s p.exponent }

-- all ways so
abbrev pub all_moved : (Exponent → Exponent) → List Path → List Path
all_moved s ps = map (moved s) ps

-- they weigh what the change makes of the weight
weigh_moved : (h : Weight) (s : Exponent → Exponent) (ps : List Path) → weigh h (all_moved s ps) ≡ weigh (λ e. h (s e)) ps
weigh_moved h s [] = refl
weigh_moved h s (p ∷ ps) = ap (λ z. h (s p.exponent) p.sign +ℤ z) (weigh_moved h s ps)

-- a change of exponents that keeps half circles takes ways that count nothing to such ways
pub moved_nothing : (s : Exponent → Exponent) → ((e : Exponent) → IsExponent (s e)) → ((e : Exponent) → s (opposite e) ≡ opposite (s e)) →
    (ps : List Path) → AreProper ps → CountNothing ps → CountNothing (all_moved s ps)
moved_nothing s proper halves ps hp none x hx =
    let is = at_is_weight x hx in
    let changed : IsWeight (λ e. at x (s e)) = record {
      differences = λ e. is.differences (s e);
      halves = λ e z he. ap (λ y. at x y z) (halves e) ∙ is.halves (s e) z (proper e);
    } in
    count_is (all_moved s ps) x ∙ weigh_moved (at x) s ps ∙ weigh_nothing (λ e. at x (s e)) changed (length ps) ps (omega arith) hp none
