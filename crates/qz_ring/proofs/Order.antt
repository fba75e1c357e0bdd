-- The order of exponents, and when two are the same.
use Rattle.std.proofs.Common.{◌≡◌, ◌∙◌, ◌⊎◌, ℕ, ℤ, ◌<ℤ◌, true, false, refl, sym, ap, inl, inr, arith}
use Rattle.std.specs.Bool.{Decides}
use Rattle.std.proofs.lemmas.Int.{ints, by_lt_z}
use Rattle.std.proofs.lemmas.Bool.{cases_order, not-true}
use Rattle.std.proofs.lemmas.Bool.Decides.{Decides-and, Decides-not, Decides-eqb, Decides-int_eq, Decides-like}
use Rattle.qz_ring.specs.Exponent.{Exponent, same_exponent, PowersBefore, ExponentBefore}

-- exponents with the same turn and powers are the same
pub same_from_parts : (a b : Exponent) → a.turn ≡ b.turn → a.x0 ≡ b.x0 → a.x1 ≡ b.x1 → a.x2 ≡ b.x2 → a ≡ b
same_from_parts a b turn x0 x1 x2 =
    ap (λ (t : ℕ). record a { turn = t }) turn ∙ ap (λ (x : ℤ). record a { turn = b.turn; x0 = x }) x0 ∙ ap (λ (x : ℤ). record b { x1 = x; x2 = a.x2 }) x1 ∙ ap (λ (x : ℤ). record b { x2 = x }) x2

-- the test tells whether two exponents are the same
pub same_exponent-decides : (a b : Exponent) → Decides (same_exponent a b) (a ≡ b)
same_exponent-decides a b =
    let powers = Decides-and _ _ (Decides-int_eq a.x0 b.x0) (Decides-and _ _ (Decides-int_eq a.x1 b.x1) (Decides-int_eq a.x2 b.x2)) in
    let parts = Decides-and _ _ (Decides-eqb a.turn b.turn) powers in
    Decides-like _ (λ same. same_from_parts a b same.0 same.1.0 same.1.1.0 same.1.1.1) (λ same. (ap (λ (e : Exponent). e.turn) same, (ap (λ (e : Exponent). e.x0) same, (ap (λ (e : Exponent). e.x1) same, ap (λ (e : Exponent). e.x2) same)))) parts

-- an exponent is the same as itself
pub same_exponent-self : (a : Exponent) → same_exponent a a ≡ true
same_exponent-self a = (same_exponent-decides a a).1 refl

-- no powers come before themselves
PowersBefore-irreflexive : (a b : Exponent) → a.x0 ≡ b.x0 → a.x1 ≡ b.x1 → a.x2 ≡ b.x2 → PowersBefore a b → ⊥
PowersBefore-irreflexive a b p q r before = grind (arith, ints)

-- no exponent comes before itself
ExponentBefore-irreflexive : (a b : Exponent) → a ≡ b → ExponentBefore a b → ⊥
ExponentBefore-irreflexive a b same before =
    let turns = ap (λ (e : Exponent). e.turn) same in
    elim before [
      | inl less ↦ omega arith
      | inr later ↦ PowersBefore-irreflexive a b (ap (λ (e : Exponent). e.x0) same) (ap (λ (e : Exponent). e.x1) same) (ap (λ (e : Exponent). e.x2) same) later.1
    ]

-- the test tells that two exponents are not the same
differing : (a b : Exponent) → ¬ (a ≡ b) → same_exponent a b ≡ false
differing a b differ = not-true (same_exponent a b) ((Decides-not (same_exponent a b) (same_exponent-decides a b)).1 differ)

-- an exponent that comes before another is not the same
pub before_differs : (a b : Exponent) → ExponentBefore a b → same_exponent a b ≡ false
before_differs a b before = differing a b (λ same. ExponentBefore-irreflexive a b same before)

-- nor is one that comes after it
pub after_differs : (a b : Exponent) → ExponentBefore a b → same_exponent b a ≡ false
after_differs a b before = differing b a (λ same. ExponentBefore-irreflexive a b (sym same) before)

-- one of two whole numbers is less, or they are the same
int_cases : (x y : ℤ) → (x <ℤ y) ⊎ ((x ≡ y) ⊎ (y <ℤ x))
int_cases x y = by_lt_z x y inl (λ le. by_lt_z y x (λ lt. inr (inr lt)) (λ ge. inr (inl (omega (arith, ints)))))

-- one of two exponents comes before the other, or they are the same
pub exponent_cases : (a b : Exponent) → ExponentBefore a b ⊎ ((a ≡ b) ⊎ ExponentBefore b a)
exponent_cases a b = elim (cases_order a.turn b.turn) [
  | inr (inl lt) ↦ inl (inl lt)
  | inr (inr gt) ↦ inr (inr (inl gt))
  | inl turn ↦ elim (int_cases a.x0 b.x0) [
    | inl lt ↦ inl (inr (turn, inl lt))
    | inr (inr gt) ↦ inr (inr (inr (sym turn, inl gt)))
    | inr (inl x0) ↦ elim (int_cases a.x1 b.x1) [
      | inl lt ↦ inl (inr (turn, inr (x0, inl lt)))
      | inr (inr gt) ↦ inr (inr (inr (sym turn, inr (sym x0, inl gt))))
      | inr (inl x1) ↦ elim (int_cases a.x2 b.x2) [
        | inl lt ↦ inl (inr (turn, inr (x0, inr (x1, lt))))
        | inr (inr gt) ↦ inr (inr (inr (sym turn, inr (sym x0, inr (sym x1, gt)))))
        | inr (inl x2) ↦ inr (inl (same_from_parts a b turn x0 x1 x2))
      ]
    ]
  ]
]

-- the order of the powers is transitive
PowersBefore-trans : (a b c : Exponent) → PowersBefore a b → PowersBefore b c → PowersBefore a c
PowersBefore-trans a b c p q = grind (arith, ints)

-- the order is transitive
pub ExponentBefore-trans : (a b c : Exponent) → ExponentBefore a b → ExponentBefore b c → ExponentBefore a c
ExponentBefore-trans a b c (inl p) (inl q) = inl (omega arith)
ExponentBefore-trans a b c (inl p) (inr q) = inl (omega (arith, q.0))
ExponentBefore-trans a b c (inr p) (inl q) = inl (omega (arith, p.0))
ExponentBefore-trans a b c (inr p) (inr q) = inr (omega (arith, p.0, q.0), PowersBefore-trans a b c p.1 q.1)
