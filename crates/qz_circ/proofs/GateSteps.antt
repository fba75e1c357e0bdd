-- Gates of rules and of programs alike, what one does to the counts at each state, and that gates on different qubits commute.
use Rattle.std.proofs.Common.{◌≡◌, ◌≢◌, ℕ, Bool, true, false, refl, sym, ap, arith}
use Rattle.std.specs.Prelude.{ℤ, ◌+ℤ◌, if◌then◌else◌}
use Rattle.std.proofs.lemmas.Int.{ints}
use Rattle.qz_circ.specs.Exponent.{Exponent, minus}
use Rattle.qz_circ.specs.Paths.{has_bit, flipped_state}
use Rattle.qz_circ.proofs.SignedWays.{signed}
use Rattle.qz_circ.proofs.Exponents.{minus-swap}
use Rattle.qz_circ.proofs.Flips.{flips_swap, bit_kept}

-- how often each exponent is counted
abbrev pub Amount : Type 0
Amount = Exponent → ℤ

-- what is counted at each state
abbrev pub Amounts : Type 0
Amounts = ℕ → Amount

-- H, X, CX, and a rotation with its exponent
pub data Kind : Type 0 where
  mix : Kind
  flip : Kind
  flip_where : Kind
  turn : Exponent → Kind

-- a gate of a rule or of a program; without a control the target stands for it
pub record Gate : Type 0 where
  pub kind : Kind
  pub control : ℕ
  pub target : ℕ

-- what a gate of this kind makes of the amount x at a state whose control and target are b and c,
-- and of the amount y where the target is flipped
abbrev pub act : Kind → Bool → Bool → Amount → Amount → Amount
act mix b c x y e = signed c (x e) +ℤ y e
act flip b c x y e = y e
act flip_where b c x y e = (if b then y else x) e
act (turn u) b c x y e = x (if c then minus e u else e)

-- what one gate makes of the amounts
abbrev pub step : Gate → Amounts → Amounts
step g v i = act g.kind (has_bit g.control i) (has_bit g.target i) (v i) (v (flipped_state g.target i))

-- neither gate's target is a qubit of the other
pub record Apart (f g : Gate) : Type 0 where
  pub targets : f.target ≢ g.target
  pub first : g.control ≢ f.target
  pub second : f.control ≢ g.target

-- two actions, on the two states of one qubit and then on those of the other, in either order
pub interchange : (k l : Kind) (b c d f : Bool) (x y z w : Amount) (e : Exponent) → act k b c (act l d f x y) (act l d f z w) e ≡ act l d f (act k b c x z) (act k b c y w) e
interchange mix mix b true d true x y z w e = omega (arith, ints)
interchange mix mix b true d false x y z w e = omega (arith, ints)
interchange mix mix b false d true x y z w e = omega (arith, ints)
interchange mix mix b false d false x y z w e = omega (arith, ints)
interchange mix flip b c d f x y z w e = refl
interchange mix flip_where b c true f x y z w e = refl
interchange mix flip_where b c false f x y z w e = refl
interchange mix (turn v) b c d f x y z w e = refl
interchange flip l b c d f x y z w e = refl
interchange flip_where l true c d f x y z w e = refl
interchange flip_where l false c d f x y z w e = refl
interchange (turn u) mix b c d f x y z w e = refl
interchange (turn u) flip b c d f x y z w e = refl
interchange (turn u) flip_where b c true f x y z w e = refl
interchange (turn u) flip_where b c false f x y z w e = refl
interchange (turn u) (turn v) b true d true x y z w e = ap x (minus-swap e u v)
interchange (turn u) (turn v) b true d false x y z w e = refl
interchange (turn u) (turn v) b false d true x y z w e = refl
interchange (turn u) (turn v) b false d false x y z w e = refl

-- two gates of which neither's target is a qubit of the other, in either order
pub commute : (f g : Gate) (v : Amounts) (i : ℕ) (e : Exponent) → Apart f g → step f (step g v) i e ≡ step g (step f v) i e
commute f g v i e apart =
    rw (bit_kept g.control f.target i apart.first, bit_kept g.target f.target i (λ h. apart.targets (sym h)), bit_kept f.control g.target i apart.second, bit_kept f.target g.target i apart.targets, flips_swap g.target f.target i)
    (interchange f.kind g.kind (has_bit f.control i) (has_bit f.target i) (has_bit g.control i) (has_bit g.target i) (v i) (v (flipped_state g.target i)) (v (flipped_state f.target i)) (v (flipped_state f.target (flipped_state g.target i))) e)
