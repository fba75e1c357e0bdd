-- What it means for a place that it is among the places of a rule: its gates gather and are the instance of the left side, and all
-- that the right side needs is bound. So the rewritten program is equivalent to the program.
use Rattle.std.proofs.Common.{◌≡◌, ℕ, zero, suc, get_or, ◌+◌, ◌<◌, ◌≤◌, ◌==◌, ◌&&◌, ◌||◌, Bool, true, false, List, [], ◌∷◌, ◌++◌, length, Option, Some, None, refl, sym, ap, subst, arith, true≢false, nat_lt}
use Rattle.std.specs.Prelude.{if◌then◌else◌, Contains}
use Rattle.std.specs.List.{AllByRecursion, list_all, flat_map, filter_map}
use Rattle.std.specs.Option.{option_map}
use Rattle.std.specs.List.{cons_option}
use Rattle.std.proofs.lemmas.Bool.{and_parts, eqb-true}
use Rattle.qz_circ.specs.declared.binding.Binding.{Binding}
use Rattle.qz_circ.specs.declared.circuit.Expr.TheVariants.{Const, Plus, Minus, Sum}
use Rattle.qz_circ.specs.declared.circuit.Op.{Op}
use Rattle.qz_circ.specs.declared.circuit.Op.TheVariants.{H, X, Cx, Rz}
use Rattle.qz_circ.specs.Circuit.{Circuit, IsOn}
use Rattle.qz_circ.specs.Equivalence.{Equivalent}
use Rattle.qz_circ.specs.Gathering.{marked, selected, gathers}
use Rattle.qz_circ.specs.Instances.{bound_instance, IsBoundBelow, HasValue, QubitsBound, ParamsBound, IsBoundCircuit}
use Rattle.qz_circ.specs.Places.{rule_qubits_of, params_of, is_listed, is_connected, is_usable, bind_gate, bind_gates, nothing_bound, PlaceParts, match_at, place_at, rising_lists, all_places, places}
use Rattle.qz_circ.specs.ProgramCircuits.{ProgramCircuit, IsProgramGate, EquivalentProgramCircuits}
use Rattle.qz_circ.specs.Replacement.{replaced}
use Rattle.qz_circ.proofs.RisingLists.{each-append, each_weaker}
use Rattle.qz_subst.proofs.EquivalentInstances.{bound_instances, bound_gates_are}
use Rattle.qz_match.proofs.Bindings.{IsBound, bound, and_then-some}
use Rattle.qz_rewrite.proofs.Gathered.{replaced_each, selected_gates, replacing, replaced_length}

-- ---- places that are found

-- the rule is usable, and its left side binds to the gates at the place, which gather
pub record IsFound (left right : Circuit) (c : ProgramCircuit) (place : PlaceParts) : Type 0 where
  pub usable : is_usable left right ≡ true
  pub gather : gathers [] [] (marked 0 place.positions c) ≡ true
  pub binds : bind_gates nothing_bound left (selected (marked 0 place.positions c)) ≡ Some place.binding

-- what all that a search gives has
each-filter_map : {A B : Type 0} (P : B → Type 0) (h : A → Option B) (xs : List A) → ((x : A) (y : B) → h x ≡ Some y → P y) → AllByRecursion P (filter_map h xs)
each-filter_map P h [] all = tt
each-filter_map {A} {B} P h (x ∷ xs) all = by (h x) refl (each-filter_map P h xs all)
  where
    by : (o : Option B) → h x ≡ o → AllByRecursion P (filter_map h xs) → AllByRecursion P (cons_option o (filter_map h xs))
    by None is rest = rest
    by (Some y) is rest = (all x y is, rest)

-- a match gathers and binds
matches : (left : Circuit) (c : ProgramCircuit) (ps : List ℕ) (bind : Binding) → match_at left c ps ≡ Some bind → (gathers [] [] (marked 0 ps c) ≡ true) × (bind_gates nothing_bound left (selected (marked 0 ps c)) ≡ Some bind)
unfolding match_at
matches left c ps bind h = by (length ps == length left) (gathers [] [] (marked 0 ps c)) h
  where
    by : (long together : Bool) → (if long && together then bind_gates nothing_bound left (selected (marked 0 ps c)) else None) ≡ Some bind → (together ≡ true) × (bind_gates nothing_bound left (selected (marked 0 ps c)) ≡ Some bind)
    by true true k = (refl, k)
    by true false k = absurd (let stuck : None ≡ Some bind = k in cc)
    by false together k = absurd (let stuck : None ≡ Some bind = k in cc)

-- so does each place of a left side
place_is : (left right : Circuit) (c : ProgramCircuit) → is_usable left right ≡ true → (ps : List ℕ) (place : PlaceParts) → place_at left c ps ≡ Some place → IsFound left right c place
place_is left right c usable ps place h = by (match_at left c ps) refl h
  where
    by : (o : Option Binding) → match_at left c ps ≡ o → option_map (λ bind. record { positions = ps; binding = bind }) o ≡ Some place → IsFound left right c place
    by None is k = absurd (let stuck : None ≡ Some place = k in cc)
    by (Some bind) is k =
        let same : record { positions = ps; binding = bind } ≡ place = cc in
        let parts = matches left c ps bind is in
        subst (IsFound left right c) same (record { usable = usable; gather = parts.0; binds = parts.1 })

-- and each place of a rule
pub places_found : (left right : Circuit) (c : ProgramCircuit) → AllByRecursion (IsFound left right c) (places left right c)
unfolding places all_places
places_found left right c = by (is_usable left right) refl
  where
    by : (usable : Bool) → is_usable left right ≡ usable → AllByRecursion (IsFound left right c) (if usable then filter_map (place_at left c) (rising_lists (length left) 0 (length c)) else [])
    by true is = each-filter_map (IsFound left right c) (place_at left c) (rising_lists (length left) 0 (length c)) (place_is left right c is)
    by false is = tt

-- ---- the right side

-- what holds of all in a list holds of what is in it
listed : (P : ℕ → Type 0) (xs : List ℕ) (s : ℕ) → AllByRecursion P xs → is_listed xs s ≡ true → P s
listed P [] s each h = absurd (true≢false (sym h))
listed P (x ∷ xs) s each h = by (x == s) (eqb-true x s) h (listed P xs s each.1)
  where
    by : (same : Bool) → (same ≡ true → x ≡ s) → (same || is_listed xs s) ≡ true → (is_listed xs s ≡ true → P s) → P s
    by true is k rest = subst P (is refl) each.0
    by false is k rest = rest k

-- and of all lists of such
all_listed : (P : ℕ → Type 0) (xs ys : List ℕ) → AllByRecursion P xs → list_all (is_listed xs) ys ≡ true → AllByRecursion P ys
all_listed P xs [] each h = tt
all_listed P xs (y ∷ ys) each h =
    let parts = and_parts (is_listed xs y) (list_all (is_listed xs) ys) h in
    (listed P xs y each parts.0, all_listed P xs ys each parts.1)

-- the first and the last of a list
front_of : (P : ℕ → Type 0) (xs ys : List ℕ) → AllByRecursion P (xs ++ ys) → AllByRecursion P xs
front_of P [] ys h = tt
front_of P (x ∷ xs) ys h = (h.0, front_of P xs ys h.1)

back_of : (P : ℕ → Type 0) (xs ys : List ℕ) → AllByRecursion P (xs ++ ys) → AllByRecursion P ys
back_of P [] ys h = h
back_of P (x ∷ xs) ys h = back_of P xs ys h.1

module _ (q : ℕ) (bind : Binding) where
  -- the qubits of a bound circuit
  gate_qubits : (g : Op) → QubitsBound q bind g → AllByRecursion (IsBoundBelow q bind) (rule_qubits_of g)
  gate_qubits (H t) h = (h, tt)
  gate_qubits (X t) h = (h, tt)
  gate_qubits (Cx c t) h = (h.0, (h.1, tt))
  gate_qubits (Rz t e) h = (h, tt)

  qubits : (c : Circuit) → IsBoundCircuit q bind c → AllByRecursion (IsBoundBelow q bind) (flat_map rule_qubits_of c)
  qubits [] h = tt
  qubits (g ∷ c) h = each-append (IsBoundBelow q bind) (rule_qubits_of g) (flat_map rule_qubits_of c) (gate_qubits g h.0.0) (qubits c h.1)

  -- and its parameters
  gate_params : (g : Op) → ParamsBound bind g → AllByRecursion (HasValue bind) (params_of g)
  gate_params (H t) h = tt
  gate_params (X t) h = tt
  gate_params (Cx c t) h = tt
  gate_params (Rz t (Const k)) h = tt
  gate_params (Rz t (Plus i)) h = (h, tt)
  gate_params (Rz t (Minus i)) h = (h, tt)
  gate_params (Rz t (Sum i j)) h = (h.0, (h.1, tt))

  params : (c : Circuit) → IsBoundCircuit q bind c → AllByRecursion (HasValue bind) (flat_map params_of c)
  params [] h = tt
  params (g ∷ c) h = each-append (HasValue bind) (params_of g) (flat_map params_of c) (gate_params g h.0.1) (params c h.1)

  -- a circuit is bound where they are
  gate_bound : (g : Op) → AllByRecursion (IsBoundBelow q bind) (rule_qubits_of g) → AllByRecursion (HasValue bind) (params_of g) → QubitsBound q bind g × ParamsBound bind g
  gate_bound (H t) h k = (h.0, tt)
  gate_bound (X t) h k = (h.0, tt)
  gate_bound (Cx c t) h k = ((h.0, h.1.0), tt)
  gate_bound (Rz t (Const i)) h k = (h.0, tt)
  gate_bound (Rz t (Plus i)) h k = (h.0, k.0)
  gate_bound (Rz t (Minus i)) h k = (h.0, k.0)
  gate_bound (Rz t (Sum i j)) h k = (h.0, (k.0, k.1.0))

  circuit_bound : (c : Circuit) → AllByRecursion (IsBoundBelow q bind) (flat_map rule_qubits_of c) → AllByRecursion (HasValue bind) (flat_map params_of c) → IsBoundCircuit q bind c
  circuit_bound [] h k = tt
  circuit_bound (g ∷ c) h k = (
    gate_bound g (front_of (IsBoundBelow q bind) (rule_qubits_of g) (flat_map rule_qubits_of c) h) (front_of (HasValue bind) (params_of g) (flat_map params_of c) k),
    circuit_bound c (back_of (IsBoundBelow q bind) (rule_qubits_of g) (flat_map rule_qubits_of c) h) (back_of (HasValue bind) (params_of g) (flat_map params_of c) k),
  )

  -- what binds the left side of a usable rule binds the right side
  right_bound : (left right : Circuit) → is_usable left right ≡ true → IsBoundCircuit q bind left → IsBoundCircuit q bind right
  unfolding is_usable
  right_bound left right usable h =
      let outer = and_parts (nat_lt 0 (length left) && is_connected left && list_all (is_listed (flat_map rule_qubits_of left)) (flat_map rule_qubits_of right)) (list_all (is_listed (flat_map params_of left)) (flat_map params_of right)) usable in
      let inner = and_parts (nat_lt 0 (length left) && is_connected left) (list_all (is_listed (flat_map rule_qubits_of left)) (flat_map rule_qubits_of right)) outer.0 in
      circuit_bound right (all_listed (IsBoundBelow q bind) (flat_map rule_qubits_of left) (flat_map rule_qubits_of right) (qubits left h) inner.1)
      (all_listed (HasValue bind) (flat_map params_of left) (flat_map params_of right) (params left h) outer.1)

-- ---- rewritten programs

-- what the left side binds to at a place
pub left_bound : (q : ℕ) (left right : Circuit) (c : ProgramCircuit) (place : PlaceParts) → IsOn 3 3 left → AllByRecursion (IsProgramGate q) c → IsFound left right c place → IsBound q place.binding left (selected (marked 0 place.positions c))
left_bound q left right c place on are found = bound q place.binding left (selected (marked 0 place.positions c)) on (selected_gates (IsProgramGate q) place.positions c are) found.binds

-- the right side is bound there
pub right_is_bound : (q : ℕ) (left right : Circuit) (c : ProgramCircuit) (place : PlaceParts) → IsOn 3 3 left → AllByRecursion (IsProgramGate q) c → IsFound left right c place → IsBoundCircuit q place.binding right
right_is_bound q left right c place on are found = right_bound q place.binding left right found.usable (left_bound q left right c place on are found).bound

-- the rewritten program is made of gates on the same qubits
pub rewritten_gates : (q : ℕ) (left right : Circuit) (c : ProgramCircuit) (place : PlaceParts) → IsOn 3 3 left → IsOn 3 3 right → AllByRecursion (IsProgramGate q) c → IsFound left right c place → AllByRecursion (IsProgramGate q) (replaced c right place)
rewritten_gates q left right c place on_left on_right are found =
    let is = left_bound q left right c place on_left are found in
    replaced_each (IsProgramGate q) place.positions (bound_instance place.binding right) c are (bound_gates_are 3 3 q place.binding right is.lawful on_right (right_is_bound q left right c place on_left are found))

-- and is equivalent to the program, where the rule's sides are equivalent
pub rewritten_equivalent : (q : ℕ) (left right : Circuit) (c : ProgramCircuit) (place : PlaceParts) → IsOn 3 3 left → IsOn 3 3 right → AllByRecursion (IsProgramGate q) c → IsFound left right c place → Equivalent 3 left right → EquivalentProgramCircuits q c (replaced c right place)
rewritten_equivalent q left right c place on_left on_right are found equal =
    let is = left_bound q left right c place on_left are found in
    let bound_right = right_is_bound q left right c place on_left are found in
    replacing q place.positions (bound_instance place.binding right) c are (bound_gates_are 3 3 q place.binding right is.lawful on_right bound_right) found.gather
    (subst (λ gates. EquivalentProgramCircuits q gates (bound_instance place.binding right)) is.instance (bound_instances 3 q place.binding left right is.lawful on_left on_right is.bound bound_right equal))

-- ---- one of the places

-- what holds of all holds of each
each_contained : {A : Type 0} (P : A → Type 0) (xs : List A) (x : A) → AllByRecursion P xs → Contains xs x → P x
each_contained {A} P xs x each (k, less, here) = subst P here (at xs k each less)
  where
    at : (ys : List A) (i : ℕ) → AllByRecursion P ys → i < length ys → P (get_or ys i x)
    at [] i h l = absurd (omega arith)
    at (y ∷ ys) zero h l = h.0
    at (y ∷ ys) (suc i) h l = at ys i h.1 (omega arith)

-- one of the places is found
pub place_found : (left right : Circuit) (c : ProgramCircuit) (place : PlaceParts) → Contains (places left right c) place → IsFound left right c place
place_found left right c place among = each_contained (IsFound left right c) (places left right c) place (places_found left right c) among

-- what the left side binds to at one of the places is its instance
pub place_bound : (q : ℕ) (left right : Circuit) (c : ProgramCircuit) (place : PlaceParts) → IsOn 3 3 left → AllByRecursion (IsProgramGate q) c → Contains (places left right c) place → IsBound q place.binding left (selected (marked 0 place.positions c))
place_bound q left right c place on are among = left_bound q left right c place on are (place_found left right c place among)

-- rewriting there keeps the qubits
pub replaced_gates : (q : ℕ) (left right : Circuit) (c : ProgramCircuit) (place : PlaceParts) → IsOn 3 3 left → IsOn 3 3 right → AllByRecursion (IsProgramGate q) c → Contains (places left right c) place → AllByRecursion (IsProgramGate q) (replaced c right place)
replaced_gates q left right c place on_left on_right are among = rewritten_gates q left right c place on_left on_right are (place_found left right c place among)

-- and the unitary
pub replaced_equivalent : (q : ℕ) (left right : Circuit) (c : ProgramCircuit) (place : PlaceParts) → IsOn 3 3 left → IsOn 3 3 right → AllByRecursion (IsProgramGate q) c → Contains (places left right c) place → Equivalent 3 left right → EquivalentProgramCircuits q c (replaced c right place)
replaced_equivalent q left right c place on_left on_right are among equal = rewritten_equivalent q left right c place on_left on_right are (place_found left right c place among) equal

-- ---- what the instance needs

-- a qubit below q is below more
wider : (q m : ℕ) (bind : Binding) → q ≤ m → (s : ℕ) → IsBoundBelow q bind s → IsBoundBelow m bind s
wider q m bind more s h = let less = h.1 in (h.0, omega arith, h.2)

gate_wider : (q m : ℕ) (bind : Binding) → q ≤ m → (g : Op) → QubitsBound q bind g × ParamsBound bind g → QubitsBound m bind g × ParamsBound bind g
gate_wider q m bind more (H t) h = (wider q m bind more t h.0, h.1)
gate_wider q m bind more (X t) h = (wider q m bind more t h.0, h.1)
gate_wider q m bind more (Cx c t) h = ((wider q m bind more c h.0.0, wider q m bind more t h.0.1), h.1)
gate_wider q m bind more (Rz t e) h = (wider q m bind more t h.0, h.1)

-- the right side is bound at one of the places
pub replaced_bound : (left right : Circuit) (c : ProgramCircuit) (place : PlaceParts) (bind : Binding) → IsOn 3 3 left → AllByRecursion (IsProgramGate 64) c → Contains (places left right c) place → bind ≡ place.binding → IsBoundCircuit 256 bind right
replaced_bound left right c place bind on are among same =
    each_weaker (λ g. QubitsBound 64 bind g × ParamsBound bind g) (λ g. QubitsBound 256 bind g × ParamsBound bind g) (gate_wider 64 256 bind (omega arith)) right
    (subst (λ b. IsBoundCircuit 64 b right) (sym same) (right_is_bound 64 left right c place on are (place_found left right c place among)))

-- ---- lengths

-- a left side binds to as many gates as it has
bound_length : (old : Binding) (left : Circuit) (gates : ProgramCircuit) (next : Binding) → bind_gates old left gates ≡ Some next → length left ≡ length gates
unfolding bind_gates
bound_length old [] [] next h = refl
bound_length old (f ∷ left) (g ∷ gates) next h =
    let parts = and_then-some (bind_gate old f g) (λ bind. bind_gates bind left gates) next h in
    ap suc (bound_length parts.0 left gates next parts.2)
bound_length old [] (g ∷ gates) next h = absurd (let stuck : None ≡ Some next = h in cc)
bound_length old (f ∷ left) [] next h = absurd (let stuck : None ≡ Some next = h in cc)

-- how many gates a rewritten program has
pub rewritten_length : (left right : Circuit) (c : ProgramCircuit) (place : PlaceParts) → Contains (places left right c) place → length (replaced c right place) + length left ≡ length c + length (bound_instance place.binding right)
rewritten_length left right c place among =
    let found = place_found left right c place among in
    let bound_so = bound_length nothing_bound left (selected (marked 0 place.positions c)) place.binding found.binds in
    let counted = replaced_length place.positions (bound_instance place.binding right) c in
    omega arith
