-- The places of a rule in a program: the lists of positions whose gates bind to the rule's left side and gather.
use Rattle.std.specs.Prelude.{ℕ, zero, suc, ◌+◌, ◌-◌, ◌%◌, ◌==◌, ◌&&◌, ◌||◌, Bool, true, false, not, if◌then◌else◌, List, [], ◌∷◌, ◌++◌, map, length, nat_lt, slice_set, Option, Some, None}
use Rattle.std.specs.List.{flat_map, list_any, list_all, filter_map}
use Rattle.std.specs.Option.{option_map}
use Rattle.qz_circ.specs.declared.binding.Binding.{Binding}
use Rattle.qz_circ.specs.declared.circuit.Expr.{Expr}
use Rattle.qz_circ.specs.declared.circuit.Expr.TheVariants.{Const, Plus, Minus, Sum}
use Rattle.qz_circ.specs.declared.circuit.Op.{Op}
use Rattle.qz_circ.specs.declared.circuit.Op.TheVariants.{H, X, Cx, Rz}
use Rattle.qz_circ.specs.declared.circuit.Inst.{Inst}
use Rattle.qz_circ.specs.declared.circuit.Inst.TheVariants.{H as ProgramH, X as ProgramX, Cx as ProgramCx, Rz as ProgramRz}
use Rattle.qz_circ.specs.Circuit.{Circuit}
use Rattle.qz_circ.specs.Exponent.{constant_turn}
use Rattle.qz_circ.specs.Gathering.{marked, selected, gathers}
use Rattle.qz_circ.specs.Instances.{slot}
use Rattle.qz_circ.specs.ProgramCircuits.{ProgramCircuit}

-- ---- qubits and parameters of rules

-- the qubits of a gate, a control before its target
abbrev pub rule_qubits_of : Op → List ℕ
rule_qubits_of (H t) = t ∷ []
rule_qubits_of (X t) = t ∷ []
rule_qubits_of (Cx c t) = c ∷ t ∷ []
rule_qubits_of (Rz t e) = t ∷ []

-- the parameters of an angle
abbrev pub params_of_angle : Expr → List ℕ
params_of_angle (Const t) = []
params_of_angle (Plus i) = i ∷ []
params_of_angle (Minus i) = i ∷ []
params_of_angle (Sum i j) = i ∷ j ∷ []

-- and those of a gate
abbrev pub params_of : Op → List ℕ
params_of (H t) = []
params_of (X t) = []
params_of (Cx c t) = []
params_of (Rz t e) = params_of_angle e

-- the number is in the list
abbrev pub is_listed : List ℕ → ℕ → Bool
is_listed numbers s = list_any (λ t. t == s) numbers

-- two gates have a common qubit
abbrev pub rule_shares : Op → Op → Bool
rule_shares f g = list_any (is_listed (rule_qubits_of g)) (rule_qubits_of f)

-- ---- connected circuits

-- every way to put each of n gates on one of two sides
unfoldable pub sidings : ℕ → List (List Bool)
sidings zero = [] ∷ []
sidings (suc n) = map (λ sides. true ∷ sides) (sidings n) ++ map (λ sides. false ∷ sides) (sidings n)

-- a gate on this side has no common qubit with one on the other side
unfoldable pub is_apart : Bool → Op → List Bool → Circuit → Bool
is_apart side g (other ∷ sides) (f ∷ gates) = ((if side then other else not other) || not (rule_shares g f)) && is_apart side g sides gates
is_apart side g sides gates = true

-- no two gates on different sides have a common qubit
unfoldable pub are_apart : List Bool → Circuit → Bool
are_apart (side ∷ sides) (g ∷ gates) = is_apart side g sides gates && are_apart sides gates
are_apart sides gates = true

-- The graph of the gates, with an edge between any two that have a common qubit, is connected: whenever the gates are put on two
-- sides and no edge leads from one side to the other, all of them are on one side.
unfoldable pub is_connected : Circuit → Bool
is_connected left = list_all (λ sides. not (are_apart sides left) || list_all (λ side. side) sides || list_all not sides) (sidings (length left))

-- ---- usable rules

-- Left isn't empty, it is connected, and each qubit and each parameter of right occurs in left. So what left binds is all that
-- right needs.
unfoldable pub is_usable : Circuit → Circuit → Bool
is_usable left right =
    nat_lt 0 (length left) && is_connected left &&
    list_all (is_listed (flat_map rule_qubits_of left)) (flat_map rule_qubits_of right) &&
    list_all (is_listed (flat_map params_of left)) (flat_map params_of right)

-- ---- binding

-- what stands for the qubits or for the parameters of a rule, by their numbers
abbrev pub Slots : Type 0
Slots = List (Option ℕ)

-- what binds further, where the first part binds
abbrev pub and_then : {A B : Type 0} → Option A → (A → Option B) → Option B
and_then None next = None
and_then (Some x) next = next x

-- it stands for some qubit already
abbrev pub stands_in : ℕ → Slots → Bool
stands_in w [] = false
stands_in w (None ∷ slots) = stands_in w slots
stands_in w (Some v ∷ slots) = v == w || stands_in w slots

-- A qubit of the rule and one of the program: where something stands for the first, it must be the second; where nothing does,
-- the second comes to stand for it, unless it stands for another one.
abbrev pub bind_where : Slots → ℕ → ℕ → Option ℕ → Option Slots
bind_where slots s w (Some v) = if v == w then Some slots else None
bind_where slots s w None = if stands_in w slots then None else Some (slice_set slots s (Some w))

abbrev pub bind_qubit : Slots → ℕ → ℕ → Option Slots
bind_qubit slots s w = bind_where slots s w (slot slots s)

-- operand by operand
abbrev pub bind_qubits : Slots → List ℕ → List ℕ → Option Slots
bind_qubits slots [] [] = Some slots
bind_qubits slots (s ∷ ss) (w ∷ ws) = and_then (bind_qubit slots s w) (λ next. bind_qubits next ss ws)
bind_qubits slots ss ws = None

-- the value of an angle, where its parameters have values
abbrev pub value_of_angle : Slots → Expr → Option ℕ
value_of_angle slots (Const t) = Some (constant_turn t)
value_of_angle slots (Plus i) = slot slots i
value_of_angle slots (Minus i) = option_map (λ v. (512 - v) % 512) (slot slots i)
value_of_angle slots (Sum i j) = and_then (slot slots i) (λ v. option_map (λ w. (v + w) % 512) (slot slots j))

-- a parameter that has no value gets this one
abbrev pub filled : Slots → ℕ → ℕ → Option ℕ → Slots
filled slots i v (Some w) = slots
filled slots i v None = slice_set slots i (Some v)

-- of two parameters the one that alone has no value gets what the sum wants beside the other
abbrev pub filled_sum : Slots → ℕ → ℕ → ℕ → Option ℕ → Option ℕ → Slots
filled_sum slots i j k None (Some w) = slice_set slots i (Some ((k + (512 - w)) % 512))
filled_sum slots i j k (Some v) None = slice_set slots j (Some ((k + (512 - v)) % 512))
filled_sum slots i j k v w = slots

-- where just one parameter of the angle has no value, it gets the one with which the angle is k
abbrev pub solved : Slots → Expr → ℕ → Slots
solved slots (Const t) k = slots
solved slots (Plus i) k = filled slots i k (slot slots i)
solved slots (Minus i) k = filled slots i ((512 - k) % 512) (slot slots i)
solved slots (Sum i j) k = filled_sum slots i j k (slot slots i) (slot slots j)

-- the angle has this value
abbrev pub is_value : ℕ → Option ℕ → Bool
is_value k None = false
is_value k (Some v) = v == k

-- An angle of the rule and number k of the program's: a parameter that alone has no value gets one; then the angle must have the
-- value k. So it fails where two parameters have none.
abbrev pub bind_angle : Slots → Expr → ℕ → Option Slots
bind_angle slots e k = if is_value k (value_of_angle (solved slots e k) e) then Some (solved slots e k) else None

-- the binding with these qubits, where they bind
abbrev pub binding_with : Slots → Option Slots → Option Binding
binding_with params qubits = option_map (λ slots. record { qubits = slots; params = params }) qubits

-- a gate of the rule and one of the program: their kinds agree, their angles bind, and so do their qubits
abbrev pub bind_gate : Binding → Op → Inst → Option Binding
bind_gate bind (H t) (ProgramH w) = binding_with bind.params (bind_qubit bind.qubits t w)
bind_gate bind (X t) (ProgramX w) = binding_with bind.params (bind_qubit bind.qubits t w)
bind_gate bind (Cx c t) (ProgramCx v w) = binding_with bind.params (bind_qubits bind.qubits (c ∷ t ∷ []) (v ∷ w ∷ []))
bind_gate bind (Rz t e) (ProgramRz w k) = and_then (bind_angle bind.params e k) (λ params. binding_with params (bind_qubit bind.qubits t w))
bind_gate bind f g = None

-- gate by gate
unfoldable pub bind_gates : Binding → Circuit → ProgramCircuit → Option Binding
bind_gates bind [] [] = Some bind
bind_gates bind (f ∷ left) (g ∷ gates) = and_then (bind_gate bind f g) (λ next. bind_gates next left gates)
bind_gates bind left gates = None

-- nothing stands for anything
abbrev pub nothing_bound : Binding
nothing_bound = record { qubits = None ∷ None ∷ None ∷ []; params = None ∷ None ∷ None ∷ [] }

-- ---- places

-- rising positions in a program, and what stands for the qubits and the parameters of the rule there
pub record PlaceParts : Type 0 where
  pub positions : List ℕ
  pub binding : Binding

-- what the gates at these positions bind: there are as many as left has, they gather, and left binds to them
unfoldable pub match_at : Circuit → ProgramCircuit → List ℕ → Option Binding
match_at left c ps =
    if length ps == length left && gathers [] [] (marked 0 ps c) then bind_gates nothing_bound left (selected (marked 0 ps c)) else None

-- the place at these positions, if they are one
abbrev pub place_at : Circuit → ProgramCircuit → List ℕ → Option PlaceParts
place_at left c ps = option_map (λ bind. record { positions = ps; binding = bind }) (match_at left c ps)

-- every rising list of k of the n numbers from a on, in order
unfoldable pub rising_lists : ℕ → ℕ → ℕ → List (List ℕ)
rising_lists zero a n = [] ∷ []
rising_lists (suc k) a zero = []
rising_lists (suc k) a (suc n) = map (λ ps. a ∷ ps) (rising_lists k (suc a) n) ++ rising_lists (suc k) (suc a) n

-- the places of a left side alone: of all rising lists of positions those that bind and gather, in order
unfoldable pub all_places : Circuit → ProgramCircuit → List PlaceParts
all_places left c = filter_map (place_at left c) (rising_lists (length left) 0 (length c))

-- the places of a rule in a program; one that isn't usable has none
unfoldable pub places : Circuit → Circuit → ProgramCircuit → List PlaceParts
places left right c = if is_usable left right then all_places left c else []
