-- What ways are worth modulo n + 1, where each exponent has a value: ways that count the same are worth the same, and ways times
-- √2 are worth that much more.
use Rattle.std.proofs.Common.{◌≡◌, ℕ, zero, suc, ◌+◌, ◌*◌, ◌%◌, ◌^◌, ◌<◌, ◌≤◌, Bool, true, List, [], ◌∷◌, ◌++◌, length, lt-ltb, le-ltb, ◌⊎◌, inl, inr, refl, sym, ap, ◌∙◌, arith}
use Rattle.std.specs.Prelude.{ℤ, pos, negsuc, ◌+ℤ◌, ◌*ℤ◌, neg_ℤ, nat_lt, if◌then◌else◌}
use Rattle.std.proofs.lemmas.Int.{ints}
use Rattle.std.proofs.lemmas.Bool.{cases_lt}
use Rattle.std.proofs.Math.Nat.{pow-suc, pow-zero}
use Rattle.qz_circ.specs.Exponent.{Exponent, IsExponent, zero_exponent, plus, with_turns, turn_of}
use Rattle.qz_circ.specs.Paths.{Path, products, root2_once, root2}
use Rattle.qz_circ.proofs.SignedWays.{AreProper, one_way}
use Rattle.qz_circ.proofs.Exponents.{exponent_eq}
use Rattle.qz_circ.proofs.Totals.{AreProper-append, AreProper-products, count-append, count-times_one}
use Rattle.qz_circ.proofs.Roots.{Shifted, proper_root2}
use Rattle.qz_paths.proofs.Weights.{opposite, opposite_twice, Weight, IsWeight, weigh, CountNothing, weigh_nothing}
use Rattle.qz_finger.specs.Modulo.{residue}
use Rattle.qz_finger.specs.Fingerprint.{value_of}
use Rattle.qz_finger.proofs.Modular.{Same, same_by, same_add, same_mul, same_from_opposite, opposite_back, residue_add, residue_mul, residue_neg, times-sub, times-neg}

-- the opposite of the opposite
neg_twice : (z : ℤ) → neg_ℤ (neg_ℤ z) ≡ z
neg_twice z = omega (arith, ints)

-- a value of each exponent that goes over products, has n for half a circle, and has r for √2
pub record IsValue (n r : ℕ) (v : Exponent → ℕ) : Type 0 where
  pub one : Same (n + 1) (v zero_exponent) 1
  pub product : (d e : Exponent) → IsExponent d → IsExponent e → Same (n + 1) (v (plus d e)) (v d * v e)
  pub half : Same (n + 1) (v (turn_of 256)) n
  pub root : Same (n + 1) (v (turn_of 64) + n * v (turn_of 192)) r

module _ (n r : ℕ) (v : Exponent → ℕ) (is : IsValue n r v) where
  -- some turns more
  turned : (e : Exponent) (k : ℕ) → IsExponent e → Same (n + 1) (v (with_turns e k)) (v e * v (turn_of k))
  turned e k he =
      let as_sum : plus e (turn_of k) ≡ with_turns e k = exponent_eq (plus e (turn_of k)) (with_turns e k) (omega arith) (omega (arith, ints)) (omega (arith, ints)) (omega (arith, ints)) in
      let proper : IsExponent (turn_of k) = omega arith in
      ap (λ x. v x % (n + 1)) (sym as_sum) ∙ is.product e (turn_of k) he proper

  -- half a circle more
  opposed : (e : Exponent) → IsExponent e → Same (n + 1) (v (opposite e)) (n * v e)
  opposed e he = turned e 256 he ∙ same_mul (n + 1) (v e) (v e) (v (turn_of 256)) n refl is.half ∙ same_by (n + 1) (v e * n) (n * v e) 0 0 (omega arith)

  -- ---- values as weights

  -- the value as a whole number that half a circle further is the opposite
  whole : Exponent → ℤ
  whole e = if nat_lt e.turn 256 then pos (v e) else neg_ℤ (pos (v (opposite e)))

  -- a sign times it
  signed_value : Weight
  signed_value e x = x *ℤ whole e

  -- half a circle further it is the opposite
  whole_opposite : (e : Exponent) → IsExponent e → whole (opposite e) ≡ neg_ℤ (whole e)
  unfolding whole
  whole_opposite e he = by (cases_lt e.turn 256)
    where
      by : (e.turn < 256) ⊎ (256 ≤ e.turn) → whole (opposite e) ≡ neg_ℤ (whole e)
      by (inl less) =
          ap (λ (b : Bool). if b then pos (v (opposite e)) else neg_ℤ (pos (v (opposite (opposite e))))) (le-ltb (opposite e).turn 256 (omega arith)) ∙
          ap (λ (x : Exponent). neg_ℤ (pos (v x))) (opposite_twice e he) ∙
          sym (ap (λ (b : Bool). neg_ℤ (if b then pos (v e) else neg_ℤ (pos (v (opposite e))))) (lt-ltb e.turn 256 less))
      by (inr more) =
          ap (λ (b : Bool). if b then pos (v (opposite e)) else neg_ℤ (pos (v (opposite (opposite e))))) (lt-ltb (opposite e).turn 256 (omega arith)) ∙
          sym (neg_twice (pos (v (opposite e)))) ∙
          sym (ap (λ (b : Bool). neg_ℤ (if b then pos (v e) else neg_ℤ (pos (v (opposite e))))) (le-ltb e.turn 256 more))

  -- it is the value
  residue_whole : (e : Exponent) → IsExponent e → Same (n + 1) (residue n (whole e)) (v e)
  unfolding whole
  residue_whole e he = by (cases_lt e.turn 256)
    where
      by : (e.turn < 256) ⊎ (256 ≤ e.turn) → Same (n + 1) (residue n (whole e)) (v e)
      by (inl less) = ap (λ (b : Bool). residue n (if b then pos (v e) else neg_ℤ (pos (v (opposite e)))) % (n + 1)) (lt-ltb e.turn 256 less)
      by (inr more) =
          ap (λ (b : Bool). residue n (if b then pos (v e) else neg_ℤ (pos (v (opposite e)))) % (n + 1)) (le-ltb e.turn 256 more) ∙
          residue_neg n (pos (v (opposite e))) ∙ same_mul (n + 1) n n (v (opposite e)) (n * v e) refl (opposed e he) ∙ opposite_back n (v e)

  is_weight : IsWeight signed_value
  unfolding signed_value
  is_weight = record {
    differences = λ e x y. times-sub x y (whole e);
    halves = λ e x he. ap (λ z. x *ℤ z) (whole_opposite e he) ∙ times-neg x (whole e);
  }

  -- the weight of ways is what they are worth
  weighed_value : (ps : List Path) → AreProper ps → Same (n + 1) (residue n (weigh signed_value ps)) (value_of n v ps)
  unfolding value_of signed_value
  weighed_value [] hp = refl
  weighed_value (p ∷ ps) hp =
      residue_add n (p.sign *ℤ whole p.exponent) (weigh signed_value ps) ∙
      same_add (n + 1) (residue n (p.sign *ℤ whole p.exponent)) (residue n p.sign * v p.exponent) (residue n (weigh signed_value ps)) (value_of n v ps)
      (residue_mul n p.sign (whole p.exponent) ∙ same_mul (n + 1) (residue n p.sign) (residue n p.sign) (residue n (whole p.exponent)) (v p.exponent) refl (residue_whole p.exponent hp.0))
      (weighed_value ps hp.1)

  -- ways that count nothing are worth nothing
  value_nothing : (ps : List Path) → AreProper ps → CountNothing ps → Same (n + 1) (value_of n v ps) 0
  value_nothing ps hp none = sym (weighed_value ps hp) ∙ ap (λ z. residue n z % (n + 1)) (weigh_nothing signed_value is_weight (length ps) ps (omega arith) hp none)

  -- ---- ways end to end, and times one way

  -- ways end to end
  pub value_append : (ps rs : List Path) → value_of n v (ps ++ rs) ≡ value_of n v ps + value_of n v rs
  unfolding value_of
  value_append [] rs = omega arith
  value_append (p ∷ ps) rs = let rest = value_append ps rs in omega arith

  -- ways times one way that is negated
  pub value_turned : (u : Exponent) (rs : List Path) → IsExponent u → AreProper rs → Same (n + 1) (value_of n v (products rs (one_way true u))) (n * (v u * value_of n v rs))
  unfolding value_of
  value_turned u [] hu hr = same_by (n + 1) 0 (n * (v u * 0)) 0 0 (omega arith)
  value_turned u (p ∷ rs) hu hr =
      let s = residue n p.sign in
      let one_more : Same (n + 1) (residue n (p.sign *ℤ negsuc 0) * v (plus p.exponent u)) (s * (n * (0 + 1)) * (v p.exponent * v u)) =
      same_mul (n + 1) (residue n (p.sign *ℤ negsuc 0)) (s * (n * (0 + 1))) (v (plus p.exponent u)) (v p.exponent * v u) (residue_mul n p.sign (negsuc 0)) (is.product p.exponent u hr.0 hu) in
      same_add (n + 1) (residue n (p.sign *ℤ negsuc 0) * v (plus p.exponent u)) (s * (n * (0 + 1)) * (v p.exponent * v u)) (value_of n v (products rs (one_way true u))) (n * (v u * value_of n v rs)) one_more (value_turned u rs hu hr.1) ∙
      same_by (n + 1) (s * (n * (0 + 1)) * (v p.exponent * v u) + n * (v u * value_of n v rs)) (n * (v u * (s * v p.exponent + value_of n v rs))) 0 0 (omega arith)

  -- ways that count what others count with a phase are worth the phase times those
  pub value_shifted : (u : Exponent) (ps rs : List Path) → IsExponent u → AreProper ps → AreProper rs → Shifted u ps rs → Same (n + 1) (value_of n v ps) (v u * value_of n v rs)
  value_shifted u ps rs hu hp hr shifted =
      let phased = products rs (one_way true u) in
      let none : CountNothing (ps ++ phased) = λ x hx. difference _ _ _ _ (count-append ps phased x) (count-times_one true u rs x hr hu hx) (shifted x hx) in
      let nothing = value_nothing (ps ++ phased) (AreProper-append ps phased hp (AreProper-products rs (one_way true u))) none in
      same_from_opposite n (value_of n v ps) (v u * value_of n v rs)
      (same_add (n + 1) (value_of n v ps) (value_of n v ps) (n * (v u * value_of n v rs)) (value_of n v phased) refl (sym (value_turned u rs hu hr)) ∙
      ap (λ x. x % (n + 1)) (sym (value_append ps phased)) ∙ nothing)
    where
      difference : (w x y z : ℤ) → w ≡ x +ℤ y → y ≡ neg_ℤ z → x ≡ z → w ≡ pos 0
      difference w x y z h k l = omega (arith, ints)

  -- ---- times √2

  -- once
  value_root2_once : (ps : List Path) → AreProper ps → Same (n + 1) (value_of n v (root2_once ps)) (r * value_of n v ps)
  unfolding value_of root2_once
  value_root2_once [] hp = same_by (n + 1) 0 (r * 0) 0 0 (omega arith)
  value_root2_once (p ∷ ps) hp =
      let s = residue n p.sign in
      let e = p.exponent in
      let low = v (turn_of 64) in
      let high = v (turn_of 192) in
      let rest = value_of n v ps in
      let first : Same (n + 1) (s * v (with_turns e 64)) (s * (v e * low)) = same_mul (n + 1) s s (v (with_turns e 64)) (v e * low) refl (turned e 64 hp.0) in
      let second : Same (n + 1) (residue n (neg_ℤ p.sign) * v (with_turns e 192)) (n * s * (v e * high)) =
      same_mul (n + 1) (residue n (neg_ℤ p.sign)) (n * s) (v (with_turns e 192)) (v e * high) (residue_neg n p.sign) (turned e 192 hp.0) in
      let third : Same (n + 1) (residue n (neg_ℤ p.sign) * v (with_turns e 192) + value_of n v (root2_once ps)) (n * s * (v e * high) + r * rest) =
      same_add (n + 1) (residue n (neg_ℤ p.sign) * v (with_turns e 192)) (n * s * (v e * high)) (value_of n v (root2_once ps)) (r * rest) second (value_root2_once ps hp.1) in
      let fourth : Same (n + 1) (s * v e * (low + n * high) + r * rest) (s * v e * r + r * rest) =
      same_add (n + 1) (s * v e * (low + n * high)) (s * v e * r) (r * rest) (r * rest) (same_mul (n + 1) (s * v e) (s * v e) (low + n * high) r refl is.root) refl in
      same_add (n + 1) (s * v (with_turns e 64)) (s * (v e * low)) (residue n (neg_ℤ p.sign) * v (with_turns e 192) + value_of n v (root2_once ps)) (n * s * (v e * high) + r * rest) first third ∙
      same_by (n + 1) (s * (v e * low) + (n * s * (v e * high) + r * rest)) (s * v e * (low + n * high) + r * rest) 0 0 (omega arith) ∙
      fourth ∙ same_by (n + 1) (s * v e * r + r * rest) (r * (s * v e + rest)) 0 0 (omega arith)

  -- and to a power
  pub value_root2 : (h : ℕ) (ps : List Path) → AreProper ps → Same (n + 1) (value_of n v (root2 h ps)) (r ^ h * value_of n v ps)
  unfolding root2
  value_root2 zero ps hp = let none = ap (λ k. k * value_of n v ps) (pow-zero r) in same_by (n + 1) (value_of n v ps) (r ^ 0 * value_of n v ps) 0 0 (omega arith)
  value_root2 (suc h) ps hp =
      let more = ap (λ k. k * value_of n v ps) (pow-suc r h) in
      value_root2_once (root2 h ps) (proper_root2 h ps hp) ∙
      same_mul (n + 1) r r (value_of n v (root2 h ps)) (r ^ h * value_of n v ps) refl (value_root2 h ps hp) ∙
      same_by (n + 1) (r * (r ^ h * value_of n v ps)) (r ^ suc h * value_of n v ps) 0 0 (omega arith)
