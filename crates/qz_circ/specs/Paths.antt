-- The path sum: the signed ways from one state to another through the gates of a circuit, and what they add up to.
-- A state of q qubits is a number below 2 ^ q. Qubit t is the bit of value 2 ^ t.
use Rattle.std.specs.Prelude.{ℕ, zero, suc, ◌^◌, ◌/◌, ◌%◌, ◌==◌, ◌&&◌, ◌||◌, Bool, true, false, if◌then◌else◌, List, [], ◌∷◌, map, fold, count_by, bit_xor, ℤ, pos, negsuc, ◌+ℤ◌, ◌-ℤ◌, ◌*ℤ◌, neg_ℤ}
use Rattle.std.specs.List.{flat_map}
use Rattle.qz_circ.specs.declared.circuit.Op.{Op}
use Rattle.qz_circ.specs.declared.circuit.Op.TheVariants.{H, X, Cx, Rz}
use Rattle.qz_circ.specs.Circuit.{Circuit, below}
use Rattle.qz_circ.specs.Exponent.{Exponent, zero_exponent, plus, with_turns, same_exponent, angle_exponent}

-- one way from a state to a state: a sign, 1 or -1, and the exponent of a monomial
pub record Path : Type 0 where
  pub sign : ℤ
  pub exponent : Exponent

-- the ways to the first state from the second
abbrev pub Ways : Type 0
Ways = ℕ → ℕ → List Path

-- qubit t of the state is 1
abbrev pub has_bit : ℕ → ℕ → Bool
has_bit t state = (state / 2 ^ t) % 2 == 1

-- the state with qubit t flipped
abbrev pub flipped_state : ℕ → ℕ → ℕ
flipped_state t state = bit_xor state (2 ^ t)

-- the one way with this sign and exponent where the test holds, and else none
abbrev pub way_if : Bool → ℤ → Exponent → List Path
way_if test s e = if test then record { sign = s; exponent = e } ∷ [] else []

-- through a rotation of qubit t: to the same state, with this exponent where the qubit is 1
abbrev pub rotation_ways : ℕ → Exponent → Ways
rotation_ways t e i k = way_if (i == k) (pos 1) (if has_bit t i then e else zero_exponent)

-- the ways through one gate, of which there is at most one between two states
unfoldable pub entry : Op → Ways
-- to the same state or the one with qubit t flipped; the sign is -1 where qubit t is 1 in both
entry (H t) i k = way_if (i == k || i == flipped_state t k) (if has_bit t i && has_bit t k then negsuc 0 else pos 1) zero_exponent
-- to the state with qubit t flipped
entry (X t) i k = way_if (i == flipped_state t k) (pos 1) zero_exponent
-- to the state with qubit t flipped where qubit c is 1, and else to the same
entry (Cx c t) i k = way_if (i == (if has_bit c k then flipped_state t k else k)) (pos 1) zero_exponent
-- to the same state, with the angle's exponent where qubit t is 1
entry (Rz t e) i k = rotation_ways t (angle_exponent e) i k

-- one way and then another: signs multiply and exponents add
abbrev pub times : Path → Path → Path
times p r = record { sign = p.sign *ℤ r.sign; exponent = plus p.exponent r.exponent }

-- each way of the first list with each of the second
abbrev pub products : List Path → List Path → List Path
products ps rs = flat_map (λ p. map (times p) rs) ps

-- the first ways and then the second, over each state between
unfoldable pub ways_through : ℕ → Ways → Ways → Ways
ways_through q first second i j = flat_map (λ k. products (first k j) (second i k)) (below (2 ^ q))

-- through no gate: from each state to itself
unfoldable pub identity_ways : Ways
identity_ways i j = way_if (i == j) (pos 1) zero_exponent

-- the ways through gates on q qubits, from left to right, where the function says the ways through one gate
unfoldable pub ways_along : {G : Type 0} → (G → Ways) → ℕ → List G → Ways
ways_along through q gates = fold (λ ways g. ways_through q ways (through g)) identity_ways gates

-- the ways through the gates of a circuit on q qubits
unfoldable pub paths : ℕ → Circuit → Ways
paths q c = ways_along entry q c

-- the signs of the ways with this exponent, added up
unfoldable pub total : List Path → Exponent → ℤ
total [] e = pos 0
total (p ∷ ps) e = (if same_exponent p.exponent e then p.sign else pos 0) +ℤ total ps e

-- how often the ways count the exponent: the ways with it, less those with 256 turns more, since ζ^256 is -1
unfoldable pub count : List Path → Exponent → ℤ
count ps e = total ps e -ℤ total ps (with_turns e 256)

-- times the square root of two, once: it is ω - ω^3, with ω = ζ^64
unfoldable pub root2_once : List Path → List Path
root2_once ps = flat_map (λ p. record { sign = p.sign; exponent = with_turns p.exponent 64 } ∷ record { sign = neg_ℤ p.sign; exponent = with_turns p.exponent 192 } ∷ []) ps

-- times the square root of two, as often as the number says
unfoldable pub root2 : ℕ → List Path → List Path
root2 zero ps = ps
root2 (suc t) ps = root2_once (root2 t ps)

-- the gate is H, which owes a factor 1/√2
abbrev pub is_h : Op → Bool
is_h (H t) = true
is_h (X t) = false
is_h (Cx c t) = false
is_h (Rz t e) = false

-- how many gates are H
abbrev pub halves : Circuit → ℕ
halves c = count_by is_h c
