-- Gates and circuits, and which of them are within limits.
use Rattle.std.specs.Prelude.{◌≢◌, ℕ, ◌+◌, ◌-◌, ◌*◌, ◌/◌, ◌<◌, ◌≤◌, ◌==◌, not, List, ◌++◌, map, filter, length, Contains}
use Rattle.std.specs.List.{range_with_len, flat_map, AllByRecursion}
use Rattle.qz_circ.specs.declared.circuit.Expr.{Expr}
use Rattle.qz_circ.specs.declared.circuit.Expr.TheVariants.{Const, Plus, Minus, Sum}
use Rattle.qz_circ.specs.declared.circuit.Op.{Op}
use Rattle.qz_circ.specs.declared.circuit.Op.TheVariants.{H, X, Cx, Rz}

-- what bounds a circuit: at most n gates on the qubits below q, with the parameters below m and the multiples of π/grain
pub record Limits : Type 0 where
  pub n : ℕ
  pub q : ℕ
  pub m : ℕ
  pub grain : ℕ

-- gates from left to right, as they are applied
abbrev pub Circuit : Type 0
Circuit = List Op

-- the numbers below n, rising
abbrev pub below : ℕ → List ℕ
below n = range_with_len 0 n

-- the numbers above i and below n, rising
abbrev pub between : ℕ → ℕ → List ℕ
between i n = range_with_len (i + 1) (n - (i + 1))

-- k·π/grain, in sixteenths of π
abbrev pub constant_of : ℕ → ℕ → ℕ
constant_of grain k = k * (16 / grain)

-- which multiple of π/grain t sixteenths of π are
abbrev pub multiple_of : ℕ → ℕ → ℕ
multiple_of grain t = t * grain / 16

-- the constants of rules, in order: the multiples of π/grain below a full circle
abbrev pub constants : ℕ → List Expr
constants grain = map (λ k. Const (constant_of grain k)) (range_with_len 1 (2 * grain - 1))

-- the angles of rules with m parameters, in order: the constants, the parameters, their negatives, the sums of two
unfoldable pub angles : ℕ → ℕ → List Expr
angles m grain =
    constants grain ++ map Plus (below m) ++ map Minus (below m) ++
    flat_map (λ i. map (Sum i) (between i m)) (below m)

-- the gates within the limits, in order: all H by qubit, all X by qubit, all CX by control and then target,
-- all rotations by qubit and then angle
unfoldable pub gates_of : Limits → List Op
gates_of b =
    map H (below b.q) ++ map X (below b.q) ++
    flat_map (λ c. map (Cx c) (filter (λ t. not (t == c)) (below b.q))) (below b.q) ++
    flat_map (λ t. map (Rz t) (angles b.m b.grain)) (below b.q)

-- the circuit has at most n gates, each of them one of the gates within the limits
pub record Within (b : Limits) (c : Circuit) : Type 0 where
  pub short : length c ≤ b.n
  pub gates : AllByRecursion (Contains (gates_of b)) c

-- the gate acts on qubits below q, and on two different ones where it acts on two
abbrev pub ActsBelow : ℕ → Op → Type 0
ActsBelow q (H t) = t < q
ActsBelow q (X t) = t < q
ActsBelow q (Cx c t) = (c < q) × (t < q) × (c ≢ t)
ActsBelow q (Rz t e) = t < q

-- the angle has only parameters below k, and two different ones where it is a sum
abbrev pub AngleHasBelow : ℕ → Expr → Type 0
AngleHasBelow k (Const t) = Unit {0}
AngleHasBelow k (Plus i) = i < k
AngleHasBelow k (Minus i) = i < k
AngleHasBelow k (Sum i j) = (i < k) × (j < k) × (i ≢ j)

-- the gate has only parameters below k; where k is 0 it has none
abbrev pub HasBelow : ℕ → Op → Type 0
HasBelow k (H t) = Unit {0}
HasBelow k (X t) = Unit {0}
HasBelow k (Cx c t) = Unit {0}
HasBelow k (Rz t e) = AngleHasBelow k e

-- each gate acts on qubits below q and has only parameters below k
abbrev pub IsOn : ℕ → ℕ → Circuit → Type 0
IsOn q k c = AllByRecursion (λ g. ActsBelow q g × HasBelow k g) c
