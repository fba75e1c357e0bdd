-- The turns of all ways through a circuit of a rule are multiples of 16, and there the values by 16 turns are those by one turn.
use Rattle.std.proofs.Common.{◌≡◌, ℕ, ◌+◌, ◌*◌, ◌/◌, ◌%◌, ◌^◌, ◌==◌, Bool, true, false, List, [], ◌∷◌, ◌++◌, map, refl, sym, ap, ◌∙◌, arith}
use Rattle.std.specs.Prelude.{ℤ, pos, fold, if◌then◌else◌}
use Rattle.std.specs.List.{flat_map, AllByRecursion}
use Rattle.qz_circ.specs.declared.circuit.Expr.{Expr}
use Rattle.qz_circ.specs.declared.circuit.Expr.TheVariants.{Const, Plus, Minus, Sum}
use Rattle.qz_circ.specs.declared.circuit.Op.{Op}
use Rattle.qz_circ.specs.declared.circuit.Op.TheVariants.{H, X, Cx, Rz}
use Rattle.qz_circ.specs.Circuit.{Circuit, below}
use Rattle.qz_circ.specs.Exponent.{Exponent, zero_exponent, angle_exponent}
use Rattle.qz_circ.specs.Paths.{Path, Ways, has_bit, way_if, times, products, entry, ways_through, ways_along, identity_ways, paths}
use Rattle.qz_finger.specs.Modulo.{residue, raise}
use Rattle.qz_finger.specs.Fingerprint.{Bases, value, value_of}
use Rattle.qz_finger.proofs.Modular.{Same, same_add, same_mul, same_pow}
use Rattle.qz_finger.proofs.Bases.{value_at, pow_pow}

-- the turn is a multiple of 16
abbrev pub IsSixteenth : Exponent → Type 0
IsSixteenth e = e.turn % 16 ≡ 0

-- so is that of each way
abbrev pub AreSixteenths : List Path → Type 0
AreSixteenths ps = AllByRecursion (λ p. IsSixteenth p.exponent) ps

-- an angle
pub sixteenth_angle : (e : Expr) → IsSixteenth (angle_exponent e)
sixteenth_angle (Const t) = omega arith
sixteenth_angle (Plus i) = refl
sixteenth_angle (Minus i) = refl
sixteenth_angle (Sum i j) = refl

-- one way, if there is one
sixteenths_if : (test : Bool) (s : ℤ) (e : Exponent) → IsSixteenth e → AreSixteenths (way_if test s e)
sixteenths_if true s e h = (h, tt)
sixteenths_if false s e h = tt

-- through a gate
sixteenths_entry : (g : Op) (i k : ℕ) → AreSixteenths (entry g i k)
unfolding entry
sixteenths_entry (H t) i k = sixteenths_if _ _ zero_exponent refl
sixteenths_entry (X t) i k = sixteenths_if _ _ zero_exponent refl
sixteenths_entry (Cx c t) i k = sixteenths_if _ _ zero_exponent refl
sixteenths_entry (Rz t e) i k = sixteenths_if (i == k) (pos 1) (if has_bit t i then angle_exponent e else zero_exponent) (by (has_bit t i))
  where
    by : (b : Bool) → IsSixteenth (if b then angle_exponent e else zero_exponent)
    by true = sixteenth_angle e
    by false = refl

-- ways end to end
sixteenths_append : (ps rs : List Path) → AreSixteenths ps → AreSixteenths rs → AreSixteenths (ps ++ rs)
sixteenths_append [] rs h k = k
sixteenths_append (p ∷ ps) rs h k = (h.0, sixteenths_append ps rs h.1 k)

-- products
sixteenths_products : (ps rs : List Path) → AreSixteenths ps → AreSixteenths rs → AreSixteenths (products ps rs)
sixteenths_products [] rs h k = tt
sixteenths_products (p ∷ ps) rs h k = sixteenths_append (map (times p) rs) (products ps rs) (row rs k) (sixteenths_products ps rs h.1 k)
  where
    row : (rs : List Path) → AreSixteenths rs → AreSixteenths (map (times p) rs)
    row [] k = tt
    row (r ∷ rs) k = let first = h.0 in let second = k.0 in (omega arith, row rs k.1)

-- through some gates after others
sixteenths_through : (q : ℕ) (first second : Ways) → ((i j : ℕ) → AreSixteenths (first i j)) → ((i j : ℕ) → AreSixteenths (second i j)) → (i j : ℕ) → AreSixteenths (ways_through q first second i j)
unfolding ways_through
sixteenths_through q first second h k i j = each (below (2 ^ q))
  where
    each : (ks : List ℕ) → AreSixteenths (flat_map (λ k. products (first k j) (second i k)) ks)
    each [] = tt
    each (l ∷ ks) = sixteenths_append (products (first l j) (second i l)) (flat_map (λ k. products (first k j) (second i k)) ks) (sixteenths_products (first l j) (second i l) (h l j) (k i l)) (each ks)

-- through the gates of a circuit
pub sixteenths_paths : (q : ℕ) (c : Circuit) (i j : ℕ) → AreSixteenths (paths q c i j)
unfolding paths ways_along identity_ways
sixteenths_paths q c = after c identity_ways (λ i j. sixteenths_if (i == j) (pos 1) zero_exponent refl)
  where
    after : (c : Circuit) (ways : Ways) → ((i j : ℕ) → AreSixteenths (ways i j)) → (i j : ℕ) → AreSixteenths (fold (λ ways g. ways_through q ways (entry g)) ways c i j)
    after [] ways h = h
    after (g ∷ c) ways h = after c (ways_through q ways (entry g)) (sixteenths_through q ways (entry g) h (sixteenths_entry g))

-- ---- values

-- where 16 turns of z are the root, both values of such an exponent are the same
pub value_sixteenth : (m z : ℕ) (b : Bases) (e : Exponent) → Same m (z ^ 16) b.root → IsSixteenth e → Same m (value b e) (value_at z b e)
value_sixteenth m z b e root sixteenth =
    let turns : 16 * (e.turn / 16) ≡ e.turn = omega arith in
    let same : Same m (b.root ^ (e.turn / 16)) (z ^ e.turn) =
    sym (same_pow m (z ^ 16) b.root (e.turn / 16) root) ∙ ap (λ x. x % m) (pow_pow z 16 (e.turn / 16) ∙ ap (λ l. z ^ l) turns) in
    let times = λ (a c k : ℕ) (h : Same m a c). same_mul m a c k k h refl in
    times _ _ (raise b.g2 b.h2 e.x2) (times _ _ (raise b.g1 b.h1 e.x1) (times _ _ (raise b.g0 b.h0 e.x0) same))

-- so ways of such exponents are worth the same by both
pub value_of_sixteenths : (n z : ℕ) (b : Bases) (ps : List Path) → Same (n + 1) (z ^ 16) b.root → AreSixteenths ps → Same (n + 1) (value_of n (value b) ps) (value_of n (value_at z b) ps)
unfolding value_of
value_of_sixteenths n z b [] root sixteenths = refl
value_of_sixteenths n z b (p ∷ ps) root sixteenths =
    same_add (n + 1) (residue n p.sign * value b p.exponent) (residue n p.sign * value_at z b p.exponent) (value_of n (value b) ps) (value_of n (value_at z b) ps)
    (same_mul (n + 1) (residue n p.sign) (residue n p.sign) (value b p.exponent) (value_at z b p.exponent) refl (value_sixteenth (n + 1) z b p.exponent root sixteenths.0))
    (value_of_sixteenths n z b ps root sixteenths.1)
