-- Powers of the square root of two: their order does not matter, they add up, they cancel, and what they count.
use Rattle.std.proofs.Common.{◌≡◌, ℕ, zero, suc, ◌+◌, List, refl, ap, ◌∙◌, arith, zero-add}
use Rattle.std.specs.Prelude.{◌-ℤ◌}
use Rattle.std.proofs.lemmas.Int.{ints}
use Rattle.qz_circ.specs.Exponent.{Exponent, IsExponent, plus, minus, turn_of}
use Rattle.qz_circ.specs.Paths.{Path, count, root2_once, root2}
use Rattle.qz_circ.proofs.SignedWays.{AreProper}
use Rattle.qz_circ.proofs.Exponents.{minus_proper, minus-swap, minus-minus}
use Rattle.qz_circ.proofs.Totals.{AreProper-root2_once, count-root2_once, count-root2_twice}
use Rattle.qz_circ.proofs.GateSteps.{Amount}

-- every exponent has the same count in ps as the exponent less u has in rs
abbrev pub Shifted : Exponent → List Path → List Path → Type 0
Shifted u ps rs = (e : Exponent) → IsExponent e → count ps e ≡ count rs (minus e u)

-- ---- their order and their sum

-- one more root, before the others or after them
once_swapped : (k : ℕ) (ps : List Path) → root2_once (root2 k ps) ≡ root2 k (root2_once ps)
unfolding root2
once_swapped zero ps = refl
once_swapped (suc k) ps = ap root2_once (once_swapped k ps)

-- the one power and the other, in either order
pub swapped : (h k : ℕ) (ps : List Path) → root2 h (root2 k ps) ≡ root2 k (root2 h ps)
unfolding root2
swapped zero k ps = refl
swapped (suc h) k ps = ap root2_once (swapped h k ps) ∙ once_swapped k (root2 h ps)

-- the one power after the other is the power of both
pub root2-add : (h k : ℕ) (ps : List Path) → root2 (h + k) ps ≡ root2 h (root2 k ps)
unfolding root2
root2-add zero k ps = ap (λ n. root2 n ps) (zero-add k)
root2-add (suc h) k ps =
    let more : suc h + k ≡ suc (h + k) = omega arith in
    ap (λ n. root2 n ps) more ∙ ap root2_once (root2-add h k ps)

-- ways times a power of √2 are proper
pub proper_root2 : (h : ℕ) (ps : List Path) → AreProper ps → AreProper (root2 h ps)
unfolding root2
proper_root2 zero ps hp = hp
proper_root2 (suc h) ps hp = AreProper-root2_once (root2 h ps)

-- ---- what they count

-- the amount times √2
abbrev pub root : Amount → Amount
root x e = x (minus e (turn_of 64)) -ℤ x (minus e (turn_of 192))

-- the amount times a power of √2
abbrev pub roots : ℕ → Amount → Amount
roots zero x = x
roots (suc h) x = root (roots h x)

-- ways times a power of √2 count as the amount times that power
pub count_roots : (h : ℕ) (ps : List Path) (e : Exponent) → AreProper ps → IsExponent e → count (root2 h ps) e ≡ roots h (count ps) e
unfolding root2
count_roots zero ps e hp he = refl
count_roots (suc h) ps e hp he =
    let low = count_roots h ps (minus e (turn_of 64)) hp (minus_proper e (turn_of 64)) in
    let high = count_roots h ps (minus e (turn_of 192)) hp (minus_proper e (turn_of 192)) in
    count-root2_once (root2 h ps) e (proper_root2 h ps hp) he ∙ (λ d. low d -ℤ high d)

-- ---- shifted counts

-- counts that are shifted stay so times √2
shifted_once : (u : Exponent) (ps rs : List Path) → AreProper ps → AreProper rs → Shifted u ps rs → Shifted u (root2_once ps) (root2_once rs)
shifted_once u ps rs hp hr h e he =
    let left = count-root2_once ps e hp he in
    let right = count-root2_once rs (minus e u) hr (minus_proper e u) in
    let low = h (minus e (turn_of 64)) (minus_proper e (turn_of 64)) ∙ ap (count rs) (minus-swap e (turn_of 64) u) in
    let high = h (minus e (turn_of 192)) (minus_proper e (turn_of 192)) ∙ ap (count rs) (minus-swap e (turn_of 192) u) in
    omega (arith, ints)

-- and so times a power of √2
pub shifted_root2 : (h : ℕ) (u : Exponent) (ps rs : List Path) → AreProper ps → AreProper rs → Shifted u ps rs → Shifted u (root2 h ps) (root2 h rs)
unfolding root2
shifted_root2 zero u ps rs hp hr s = s
shifted_root2 (suc h) u ps rs hp hr s = shifted_once u (root2 h ps) (root2 h rs) (proper_root2 h ps hp) (proper_root2 h rs hr) (shifted_root2 h u ps rs hp hr s)

-- a root cancels, since twice it doubles
unshifted_once : (u : Exponent) (ps rs : List Path) → AreProper ps → AreProper rs → Shifted u (root2_once ps) (root2_once rs) → Shifted u ps rs
unshifted_once u ps rs hp hr h e he =
    let twice = shifted_once u (root2_once ps) (root2_once rs) (AreProper-root2_once ps) (AreProper-root2_once rs) h e he in
    let left = count-root2_twice ps e hp he in
    let right = count-root2_twice rs (minus e u) hr (minus_proper e u) in
    omega (arith, ints)

-- and so does a power
pub unshifted_root2 : (h : ℕ) (u : Exponent) (ps rs : List Path) → AreProper ps → AreProper rs → Shifted u (root2 h ps) (root2 h rs) → Shifted u ps rs
unfolding root2
unshifted_root2 zero u ps rs hp hr s = s
unshifted_root2 (suc h) u ps rs hp hr s = unshifted_root2 h u ps rs hp hr (unshifted_once u (root2 h ps) (root2 h rs) (proper_root2 h ps hp) (proper_root2 h rs hr) s)

-- through ways in the middle, whose roots cancel
pub through_middle : (ha hb hc : ℕ) (u v : Exponent) (a b c : List Path) → IsExponent u → IsExponent v → AreProper a → AreProper b → AreProper c →
    Shifted u (root2 hb a) (root2 ha b) → Shifted v (root2 hc b) (root2 hb c) → Shifted (plus u v) (root2 hc a) (root2 ha c)
through_middle ha hb hc u v a b c hu hv pa pb pc first second =
    unshifted_root2 hb (plus u v) (root2 hc a) (root2 ha c) (proper_root2 hc a pa) (proper_root2 ha c pc) (λ e he.
    ap (λ ps. count ps e) (swapped hb hc a) ∙
    shifted_root2 hc u (root2 hb a) (root2 ha b) (proper_root2 hb a pa) (proper_root2 ha b pb) first e he ∙
    ap (λ ps. count ps (minus e u)) (swapped hc ha b) ∙
    shifted_root2 ha v (root2 hc b) (root2 hb c) (proper_root2 hc b pb) (proper_root2 hb c pc) second (minus e u) (minus_proper e u) ∙
    ap (λ ps. count ps (minus (minus e u) v)) (swapped ha hb c) ∙
    ap (count (root2 hb (root2 ha c))) (minus-minus e u v hu hv))
