-- A rule whose qubits are renamed has the same children.
use Rattle.std.proofs.Common.{◌≡◌, ◌≢◌, ℕ, zero, suc, ◌+◌, ◌<◌, ◌==◌, ◌&&◌, ◌||◌, Bool, true, false, if◌then◌else◌, List, [], ◌∷◌, ◌++◌, map, length, Option, Some, None, refl, sym, ap, ◌∙◌, ◌⊎◌, inl, inr, arith}
use Rattle.std.specs.Prelude.{slice_set}
use Rattle.std.specs.List.{AllByRecursion, filter_map, cons_option}
use Rattle.std.specs.Option.{option_map, unwrap_or}
use Rattle.std.proofs.lemmas.Bool.{cases_eq, eq-eqb, ne_eqb}
use Rattle.std.proofs.lemmas.List.{length-set, length-map}
use Rattle.qz_circ.specs.declared.binding.Binding.{Binding}
use Rattle.qz_circ.specs.declared.circuit.Op.{Op}
use Rattle.qz_circ.specs.declared.circuit.Op.TheVariants.{H, X, Cx, Rz}
use Rattle.qz_circ.specs.declared.circuit.Inst.{Inst}
use Rattle.qz_circ.specs.declared.circuit.Inst.TheVariants.{H as ProgramH, X as ProgramX, Cx as ProgramCx, Rz as ProgramRz}
use Rattle.qz_circ.specs.Circuit.{Circuit, IsOn, ActsBelow, HasBelow}
use Rattle.qz_circ.specs.Exponent.{angle_value}
use Rattle.qz_circ.specs.Instances.{slot, IsBoundBelow, qubit_of, param_of, instance_gate, instance_of, bound_instance, QubitsBound, IsBoundCircuit}
use Rattle.qz_circ.specs.Gathering.{marked, selected, gathers, replaced_at}
use Rattle.qz_circ.specs.Places.{Slots, and_then, stands_in, bind_where, bind_qubit, bind_qubits, bind_angle, binding_with, bind_gate, bind_gates, nothing_bound, PlaceParts, match_at, place_at, rising_lists, all_places, places, is_usable}
use Rattle.qz_circ.specs.ProgramCircuits.{ProgramCircuit, IsProgramGate}
use Rattle.qz_circ.specs.Replacement.{replaced, children_by}
use Rattle.qz_match.proofs.Bindings.{and_then-some}
use Rattle.qz_rewrite.specs.Renaming.{exchanged, renamed_gate, renamed}
use Rattle.qz_rewrite.proofs.FoundPlaces.{IsFound, places_found, right_is_bound}

-- ---- slots

-- what stands for two qubits is exchanged
abbrev pub swapped : ℕ → Slots → Slots
swapped zero (a ∷ b ∷ slots) = b ∷ a ∷ slots
swapped (suc s) (a ∷ slots) = a ∷ swapped s slots
swapped s slots = slots

swapped_slot : (s t : ℕ) (a b c : Option ℕ) → s < 2 → t < 3 → slot (swapped s (a ∷ b ∷ c ∷ [])) (exchanged s t) ≡ slot (a ∷ b ∷ c ∷ []) t
swapped_slot zero zero a b c h g = refl
swapped_slot zero (suc zero) a b c h g = refl
swapped_slot zero (suc (suc zero)) a b c h g = refl
swapped_slot (suc zero) zero a b c h g = refl
swapped_slot (suc zero) (suc zero) a b c h g = refl
swapped_slot (suc zero) (suc (suc zero)) a b c h g = refl
swapped_slot zero (suc (suc (suc t))) a b c h g = absurd (omega arith)
swapped_slot (suc zero) (suc (suc (suc t))) a b c h g = absurd (omega arith)
swapped_slot (suc (suc s)) t a b c h g = absurd (omega arith)

swapped_set : (s t : ℕ) (a b c o : Option ℕ) → s < 2 → t < 3 → slice_set (swapped s (a ∷ b ∷ c ∷ [])) (exchanged s t) o ≡ swapped s (slice_set (a ∷ b ∷ c ∷ []) t o)
swapped_set zero zero a b c o h g = refl
swapped_set zero (suc zero) a b c o h g = refl
swapped_set zero (suc (suc zero)) a b c o h g = refl
swapped_set (suc zero) zero a b c o h g = refl
swapped_set (suc zero) (suc zero) a b c o h g = refl
swapped_set (suc zero) (suc (suc zero)) a b c o h g = refl
swapped_set zero (suc (suc (suc t))) a b c o h g = absurd (omega arith)
swapped_set (suc zero) (suc (suc (suc t))) a b c o h g = absurd (omega arith)
swapped_set (suc (suc s)) t a b c o h g = absurd (omega arith)

or_swap : (a b c : Bool) → (a || (b || c)) ≡ (b || (a || c))
or_swap true true c = refl
or_swap true false c = refl
or_swap false true c = refl
or_swap false false c = refl

swapped_front : (w : ℕ) (a b : Option ℕ) (slots : Slots) → stands_in w (b ∷ a ∷ slots) ≡ stands_in w (a ∷ b ∷ slots)
swapped_front w None None slots = refl
swapped_front w None (Some y) slots = refl
swapped_front w (Some x) None slots = refl
swapped_front w (Some x) (Some y) slots = or_swap (y == w) (x == w) (stands_in w slots)

swapped_stands : (s w : ℕ) (slots : Slots) → stands_in w (swapped s slots) ≡ stands_in w slots
swapped_stands zero w [] = refl
swapped_stands zero w (a ∷ []) = refl
swapped_stands zero w (a ∷ b ∷ slots) = swapped_front w a b slots
swapped_stands (suc s) w [] = refl
swapped_stands (suc s) w (None ∷ slots) = swapped_stands s w slots
swapped_stands (suc s) w (Some v ∷ slots) = ap (λ b. (v == w) || b) (swapped_stands s w slots)

-- ---- binding

chosen : {A B : Type 0} (f : A → B) (b : Bool) (x : A) → (if b then Some (f x) else None) ≡ option_map f (if b then Some x else None)
chosen f true x = refl
chosen f false x = refl

denied : {A B : Type 0} (f : A → B) (b : Bool) (x : A) → (if b then None else Some (f x)) ≡ option_map f (if b then None else Some x)
denied f true x = refl
denied f false x = refl

where_renamed : (s t w : ℕ) (a b c : Option ℕ) (o : Option ℕ) → s < 2 → t < 3 → bind_where (swapped s (a ∷ b ∷ c ∷ [])) (exchanged s t) w o ≡ option_map (swapped s) (bind_where (a ∷ b ∷ c ∷ []) t w o)
where_renamed s t w a b c (Some v) h g = chosen (swapped s) (v == w) (a ∷ b ∷ c ∷ [])
where_renamed s t w a b c None h g =
    (λ i. if swapped_stands s w (a ∷ b ∷ c ∷ []) i then None else Some (swapped_set s t a b c (Some w) h g i))
    ∙ denied (swapped s) (stands_in w (a ∷ b ∷ c ∷ [])) (slice_set (a ∷ b ∷ c ∷ []) t (Some w))

qubit_renamed : (s t w : ℕ) (slots : Slots) → s < 2 → t < 3 → length slots ≡ 3 → bind_qubit (swapped s slots) (exchanged s t) w ≡ option_map (swapped s) (bind_qubit slots t w)
qubit_renamed s t w (a ∷ b ∷ c ∷ []) h g size =
    (λ i. bind_where (swapped s (a ∷ b ∷ c ∷ [])) (exchanged s t) w (swapped_slot s t a b c h g i)) ∙ where_renamed s t w a b c (slot (a ∷ b ∷ c ∷ []) t) h g
qubit_renamed s t w [] h g size = absurd (omega arith)
qubit_renamed s t w (a ∷ []) h g size = absurd (omega arith)
qubit_renamed s t w (a ∷ b ∷ []) h g size = absurd (omega arith)
qubit_renamed s t w (a ∷ b ∷ c ∷ d ∷ slots) h g size = absurd (omega arith)

where_size : (slots next : Slots) (t w : ℕ) (o : Option ℕ) → bind_where slots t w o ≡ Some next → length next ≡ length slots
where_size slots next t w (Some v) h = by (v == w) h
  where
    by : (b : Bool) → (if b then Some slots else None) ≡ Some next → length next ≡ length slots
    by true e = let same : slots ≡ next = cc in ap length (sym same)
    by false e = cc
where_size slots next t w None h = by (stands_in w slots) h
  where
    by : (b : Bool) → (if b then None else Some (slice_set slots t (Some w))) ≡ Some next → length next ≡ length slots
    by true e = cc
    by false e = let same : slice_set slots t (Some w) ≡ next = cc in ap length (sym same) ∙ length-set slots t (Some w)

-- what binds further binds further under a change
then_changed : {A B C D : Type 0} (f : A → C) (h : B → D) (o : Option A) (next : A → Option B) (other : C → Option D) → ((x : A) → o ≡ Some x → other (f x) ≡ option_map h (next x)) → and_then (option_map f o) other ≡ option_map h (and_then o next)
then_changed f h None next other same = refl
then_changed f h (Some x) next other same = same x refl

qubits_renamed : (s : ℕ) (slots : Slots) (ss ws : List ℕ) → s < 2 → AllByRecursion (λ t. t < 3) ss → length slots ≡ 3 → bind_qubits (swapped s slots) (map (exchanged s) ss) ws ≡ option_map (swapped s) (bind_qubits slots ss ws)
qubits_renamed s slots [] [] h all size = refl
qubits_renamed s slots (t ∷ ss) (w ∷ ws) h all size =
    (λ i. and_then (qubit_renamed s t w slots h all.0 size i) (λ next. bind_qubits next (map (exchanged s) ss) ws))
    ∙ then_changed (swapped s) (swapped s) (bind_qubit slots t w) (λ next. bind_qubits next ss ws) (λ next. bind_qubits next (map (exchanged s) ss) ws) (λ next e. qubits_renamed s next ss ws h all.1 (where_size slots next t w (slot slots t) e ∙ size))
qubits_renamed s slots [] (w ∷ ws) h all size = refl
qubits_renamed s slots (t ∷ ss) [] h all size = refl

-- a binding with what stands for two qubits exchanged
abbrev pub swapped_binding : ℕ → Binding → Binding
swapped_binding s bind = record { qubits = swapped s bind.qubits; params = bind.params }

with_renamed : (s : ℕ) (params : Slots) (o : Option Slots) → binding_with params (option_map (swapped s) o) ≡ option_map (swapped_binding s) (binding_with params o)
with_renamed s params None = refl
with_renamed s params (Some slots) = refl

gate_renamed : (s : ℕ) (bind : Binding) (f : Op) (g : Inst) → s < 2 → ActsBelow 3 f → length bind.qubits ≡ 3 → bind_gate (swapped_binding s bind) (renamed_gate s f) g ≡ option_map (swapped_binding s) (bind_gate bind f g)
gate_renamed s bind (H t) (ProgramH w) h acts size =
    ap (binding_with bind.params) (qubit_renamed s t w bind.qubits h acts size) ∙ with_renamed s bind.params (bind_qubit bind.qubits t w)
gate_renamed s bind (X t) (ProgramX w) h acts size =
    ap (binding_with bind.params) (qubit_renamed s t w bind.qubits h acts size) ∙ with_renamed s bind.params (bind_qubit bind.qubits t w)
gate_renamed s bind (Cx c t) (ProgramCx v w) h acts size =
    ap (binding_with bind.params) (qubits_renamed s bind.qubits (c ∷ t ∷ []) (v ∷ w ∷ []) h (acts.0, (acts.1, tt)) size) ∙ with_renamed s bind.params (bind_qubits bind.qubits (c ∷ t ∷ []) (v ∷ w ∷ []))
gate_renamed s bind (Rz t e) (ProgramRz w k) h acts size = by (bind_angle bind.params e k)
  where
    by : (o : Option Slots) → and_then o (λ params. binding_with params (bind_qubit (swapped s bind.qubits) (exchanged s t) w)) ≡ option_map (swapped_binding s) (and_then o (λ params. binding_with params (bind_qubit bind.qubits t w)))
    by None = refl
    by (Some params) =
        ap (binding_with params) (qubit_renamed s t w bind.qubits h acts size) ∙ with_renamed s params (bind_qubit bind.qubits t w)
gate_renamed s bind f g h acts size = refl

with_size : (params : Slots) (o : Option Slots) (next : Binding) → binding_with params o ≡ Some next → (slots : Slots) × (o ≡ Some slots) × (slots ≡ next.qubits)
with_size params None next e = cc
with_size params (Some slots) next e =
    let same : record { qubits = slots; params = params } ≡ next = cc in (slots, refl, ap (λ b. b.qubits) same)

qubits_size : (slots next : Slots) (ss ws : List ℕ) → bind_qubits slots ss ws ≡ Some next → length next ≡ length slots
qubits_size slots next [] [] e = let same : slots ≡ next = cc in ap length (sym same)
qubits_size slots next (t ∷ ss) (w ∷ ws) e =
    let parts = and_then-some (bind_qubit slots t w) (λ more. bind_qubits more ss ws) next e in
    qubits_size parts.0 next ss ws parts.2 ∙ where_size slots parts.0 t w (slot slots t) parts.1
qubits_size slots next [] (w ∷ ws) e = cc
qubits_size slots next (t ∷ ss) [] e = cc

one_size : (slots params : Slots) (t w : ℕ) (next : Binding) → binding_with params (bind_qubit slots t w) ≡ Some next → length next.qubits ≡ length slots
one_size slots params t w next e =
    let parts = with_size params (bind_qubit slots t w) next e in
    ap length (sym parts.2) ∙ where_size slots parts.0 t w (slot slots t) parts.1

gate_size : (bind next : Binding) (f : Op) (g : Inst) → bind_gate bind f g ≡ Some next → length next.qubits ≡ length bind.qubits
gate_size bind next (H t) (ProgramH w) e = one_size bind.qubits bind.params t w next e
gate_size bind next (X t) (ProgramX w) e = one_size bind.qubits bind.params t w next e
gate_size bind next (Cx c t) (ProgramCx v w) e =
    let parts = with_size bind.params (bind_qubits bind.qubits (c ∷ t ∷ []) (v ∷ w ∷ [])) next e in
    ap length (sym parts.2) ∙ qubits_size bind.qubits parts.0 (c ∷ t ∷ []) (v ∷ w ∷ []) parts.1
gate_size bind next (Rz t e) (ProgramRz w k) h =
    let parts = and_then-some (bind_angle bind.params e k) (λ params. binding_with params (bind_qubit bind.qubits t w)) next h in
    one_size bind.qubits parts.0 t w next parts.2
gate_size bind next f g e = cc

gates_renamed : (s : ℕ) (bind : Binding) (left : Circuit) (gates : ProgramCircuit) → s < 2 → IsOn 3 3 left → length bind.qubits ≡ 3 → bind_gates (swapped_binding s bind) (renamed s left) gates ≡ option_map (swapped_binding s) (bind_gates bind left gates)
unfolding bind_gates
gates_renamed s bind [] [] h on size = refl
gates_renamed s bind (f ∷ left) (g ∷ gates) h on size =
    (λ i. and_then (gate_renamed s bind f g h on.0.0 size i) (λ next. bind_gates next (renamed s left) gates))
    ∙ then_changed (swapped_binding s) (swapped_binding s) (bind_gate bind f g) (λ next. bind_gates next left gates) (λ next. bind_gates next (renamed s left) gates) (λ next e. gates_renamed s next left gates h on.1 (gate_size bind next f g e ∙ size))
gates_renamed s bind [] (g ∷ gates) h on size = refl
gates_renamed s bind (f ∷ left) [] h on size = refl

nothing_renamed : (s : ℕ) → s < 2 → swapped_binding s nothing_bound ≡ nothing_bound
nothing_renamed zero h = refl
nothing_renamed (suc zero) h = refl
nothing_renamed (suc (suc s)) h = absurd (omega arith)

-- ---- places

match_renamed : (s : ℕ) (left : Circuit) (c : ProgramCircuit) (ps : List ℕ) → s < 2 → IsOn 3 3 left → match_at (renamed s left) c ps ≡ option_map (swapped_binding s) (match_at left c ps)
unfolding match_at
match_renamed s left c ps h on =
    (λ i. if length ps == length-map left (renamed_gate s) i && gathers [] [] (marked 0 ps c) then bind_gates (sym (nothing_renamed s h) i) (renamed s left) (selected (marked 0 ps c)) else None)
    ∙ (λ i. if length ps == length left && gathers [] [] (marked 0 ps c) then gates_renamed s nothing_bound left (selected (marked 0 ps c)) h on refl i else None)
    ∙ by (length ps == length left && gathers [] [] (marked 0 ps c)) (bind_gates nothing_bound left (selected (marked 0 ps c)))
  where
    by : (b : Bool) (o : Option Binding) → (if b then option_map (swapped_binding s) o else None) ≡ option_map (swapped_binding s) (if b then o else None)
    by true o = refl
    by false o = refl

abbrev pub swapped_place : ℕ → PlaceParts → PlaceParts
swapped_place s place = record { positions = place.positions; binding = swapped_binding s place.binding }

place_renamed : (s : ℕ) (left : Circuit) (c : ProgramCircuit) (ps : List ℕ) → s < 2 → IsOn 3 3 left → place_at (renamed s left) c ps ≡ option_map (swapped_place s) (place_at left c ps)
place_renamed s left c ps h on =
    ap (option_map (λ bind. record { positions = ps; binding = bind })) (match_renamed s left c ps h on) ∙ by (match_at left c ps)
  where
    by : (o : Option Binding) → option_map (λ bind. record { positions = ps; binding = bind }) (option_map (swapped_binding s) o) ≡ option_map (swapped_place s) (option_map (λ bind. record { positions = ps; binding = bind }) o)
    by None = refl
    by (Some bind) = refl

found_renamed : (s : ℕ) (left : Circuit) (c : ProgramCircuit) (lists : List (List ℕ)) → s < 2 → IsOn 3 3 left → filter_map (place_at (renamed s left) c) lists ≡ map (swapped_place s) (filter_map (place_at left c) lists)
found_renamed s left c [] h on = refl
found_renamed s left c (ps ∷ lists) h on =
    (λ i. cons_option (place_renamed s left c ps h on i) (found_renamed s left c lists h on i)) ∙ by (place_at left c ps) (filter_map (place_at left c) lists)
  where
    by : (o : Option PlaceParts) (places : List PlaceParts) → cons_option (option_map (swapped_place s) o) (map (swapped_place s) places) ≡ map (swapped_place s) (cons_option o places)
    by None places = refl
    by (Some place) places = refl

all_renamed : (s : ℕ) (left : Circuit) (c : ProgramCircuit) → s < 2 → IsOn 3 3 left → all_places (renamed s left) c ≡ map (swapped_place s) (all_places left c)
unfolding all_places
all_renamed s left c h on =
    (λ i. filter_map (place_at (renamed s left) c) (rising_lists (length-map left (renamed_gate s) i) 0 (length c))) ∙ found_renamed s left c (rising_lists (length left) 0 (length c)) h on

-- ---- instances

gates_size : (bind next : Binding) (left : Circuit) (gates : ProgramCircuit) → bind_gates bind left gates ≡ Some next → length next.qubits ≡ length bind.qubits
unfolding bind_gates
gates_size bind next [] [] e = let same : bind ≡ next = cc in ap (λ b. length b.qubits) (sym same)
gates_size bind next (f ∷ left) (g ∷ gates) e =
    let parts = and_then-some (bind_gate bind f g) (λ more. bind_gates more left gates) next e in
    gates_size parts.0 next left gates parts.2 ∙ gate_size bind parts.0 f g parts.1
gates_size bind next [] (g ∷ gates) e = cc
gates_size bind next (f ∷ left) [] e = cc

same_slot : (s t : ℕ) (slots : Slots) → s < 2 → t < 3 → length slots ≡ 3 → slot (swapped s slots) (exchanged s t) ≡ slot slots t
same_slot s t (a ∷ b ∷ c ∷ []) h g size = swapped_slot s t a b c h g
same_slot s t [] h g size = absurd (omega arith)
same_slot s t (a ∷ []) h g size = absurd (omega arith)
same_slot s t (a ∷ b ∷ []) h g size = absurd (omega arith)
same_slot s t (a ∷ b ∷ c ∷ d ∷ slots) h g size = absurd (omega arith)

same_qubit : (s t : ℕ) (bind : Binding) → s < 2 → t < 3 → length bind.qubits ≡ 3 → IsBoundBelow 64 bind t → qubit_of (swapped_binding s bind) (exchanged s t) ≡ qubit_of bind t
same_qubit s t bind h g size b =
    (λ i. unwrap_or ((same_slot s t bind.qubits h g size ∙ b.2) i) (64 + exchanged s t)) ∙ sym (λ i. unwrap_or (b.2 i) (64 + t))

same_gate : (s : ℕ) (bind : Binding) (g : Op) → s < 2 → ActsBelow 3 g → length bind.qubits ≡ 3 → QubitsBound 64 bind g → instance_gate (qubit_of (swapped_binding s bind)) (param_of (swapped_binding s bind)) (renamed_gate s g) ≡ instance_gate (qubit_of bind) (param_of bind) g
same_gate s bind (H t) h acts size b = (λ i. ProgramH (same_qubit s t bind h acts size b i) ∷ [])
same_gate s bind (X t) h acts size b = (λ i. ProgramX (same_qubit s t bind h acts size b i) ∷ [])
same_gate s bind (Cx c t) h acts size b =
    (λ i. ProgramCx (same_qubit s c bind h acts.0 size b.0 i) (same_qubit s t bind h acts.1 size b.1 i) ∷ [])
same_gate s bind (Rz t e) h acts size b =
    (λ i. if angle_value (param_of bind) e == 0 then [] else ProgramRz (same_qubit s t bind h acts size b i) (angle_value (param_of bind) e) ∷ [])

same_instance : (s : ℕ) (bind : Binding) (right : Circuit) → s < 2 → IsOn 3 3 right → length bind.qubits ≡ 3 → IsBoundCircuit 64 bind right → bound_instance (swapped_binding s bind) (renamed s right) ≡ bound_instance bind right
unfolding instance_of
same_instance s bind [] h on size b = refl
same_instance s bind (g ∷ right) h on size b =
    λ i. same_gate s bind g h on.0.0 size b.0.0 i ++ same_instance s bind right h on.1 size b.1 i

-- ---- children

same_child : (s : ℕ) (left right : Circuit) (c : ProgramCircuit) (place : PlaceParts) → s < 2 → IsOn 3 3 left → IsOn 3 3 right → AllByRecursion (IsProgramGate 64) c → IsFound left right c place → replaced c (renamed s right) (swapped_place s place) ≡ replaced c right place
same_child s left right c place h on_left on_right lawful found =
    λ i. replaced_at place.positions (same_instance s place.binding right h on_right (gates_size nothing_bound place.binding left (selected (marked 0 place.positions c)) found.binds) (right_is_bound 64 left right c place on_left lawful found) i) c

same_children : (s : ℕ) (left right : Circuit) (c : ProgramCircuit) (found : List PlaceParts) → s < 2 → IsOn 3 3 left → IsOn 3 3 right → AllByRecursion (IsProgramGate 64) c → AllByRecursion (IsFound left right c) found → map (replaced c (renamed s right)) (map (swapped_place s) found) ≡ map (replaced c right) found
same_children s left right c [] h on_left on_right lawful all = refl
same_children s left right c (place ∷ found) h on_left on_right lawful all =
    λ i. same_child s left right c place h on_left on_right lawful all.0 i ∷ same_children s left right c found h on_left on_right lawful all.1 i

usable_places : (left right : Circuit) (c : ProgramCircuit) → is_usable left right ≡ true → places left right c ≡ all_places left c
unfolding places
usable_places left right c usable = λ i. if usable i then all_places left c else []

pub renamed_children : (s : ℕ) (left right : Circuit) (c : ProgramCircuit) → s < 2 → IsOn 3 3 left → IsOn 3 3 right → AllByRecursion (IsProgramGate 64) c → is_usable left right ≡ true → is_usable (renamed s left) (renamed s right) ≡ true → children_by (renamed s left) (renamed s right) c ≡ children_by left right c
unfolding children_by
renamed_children s left right c h on_left on_right lawful usable again =
    ap (map (replaced c (renamed s right))) (usable_places (renamed s left) (renamed s right) c again ∙ all_renamed s left c h on_left ∙ ap (map (swapped_place s)) (sym (usable_places left right c usable)))
    ∙ same_children s left right c (places left right c) h on_left on_right lawful (places_found left right c)

-- ---- what a renamed circuit keeps

exchanged_below : (s t : ℕ) → s < 2 → t < 3 → exchanged s t < 3
exchanged_below s t h g = by (t == s) (t == suc s)
  where
    by : (a b : Bool) → (if a then suc s else if b then s else t) < 3
    by true b = omega arith
    by false true = omega arith
    by false false = g

pub exchanged_apart : (s t u : ℕ) → exchanged s t ≡ exchanged s u → t ≡ u
exchanged_apart s t u = by (cases_eq t s) (cases_eq t (suc s)) (cases_eq u s) (cases_eq u (suc s))
  where
    at_first : (t : ℕ) → t ≡ s → exchanged s t ≡ suc s
    at_first t e = λ i. if eq-eqb t s e i then suc s else if t == suc s then s else t

    at_second : (t : ℕ) → t ≡ suc s → exchanged s t ≡ s
    at_second t e = let no : t ≢ s = omega (arith, e) in λ i. if ne_eqb t s no i then suc s else if eq-eqb t (suc s) e i then s else t

    elsewhere : (t : ℕ) → t ≢ s → t ≢ suc s → exchanged s t ≡ t
    elsewhere t n m = λ i. if ne_eqb t s n i then suc s else if ne_eqb t (suc s) m i then s else t

    by : (t ≡ s) ⊎ (t ≢ s) → (t ≡ suc s) ⊎ (t ≢ suc s) → (u ≡ s) ⊎ (u ≢ s) → (u ≡ suc s) ⊎ (u ≢ suc s) → exchanged s t ≡ exchanged s u → t ≡ u
    by (inl e) q (inl f) r h = e ∙ sym f
    by (inl e) q (inr f) (inl g) h = let a = at_first t e in let b = at_second u g in omega (arith, a, b, h)
    by (inl e) q (inr f) (inr g) h = let a = at_first t e in let b = elsewhere u f g in omega (arith, a, b, h)
    by (inr e) (inl q) (inl f) r h = let a = at_second t q in let b = at_first u f in omega (arith, a, b, h)
    by (inr e) (inl q) (inr f) (inl g) h = q ∙ sym g
    by (inr e) (inl q) (inr f) (inr g) h = let a = at_second t q in let b = elsewhere u f g in omega (arith, a, b, h)
    by (inr e) (inr q) (inl f) r h = let a = elsewhere t e q in let b = at_first u f in omega (arith, a, b, h)
    by (inr e) (inr q) (inr f) (inl g) h = let a = elsewhere t e q in let b = at_second u g in omega (arith, a, b, h)
    by (inr e) (inr q) (inr f) (inr g) h = sym (elsewhere t e q) ∙ h ∙ elsewhere u f g

gate_on : (s : ℕ) (g : Op) → s < 2 → ActsBelow 3 g × HasBelow 3 g → ActsBelow 3 (renamed_gate s g) × HasBelow 3 (renamed_gate s g)
gate_on s (H t) h on = (exchanged_below s t h on.0, on.1)
gate_on s (X t) h on = (exchanged_below s t h on.0, on.1)
gate_on s (Cx c t) h on =
    ((exchanged_below s c h on.0.0, exchanged_below s t h on.0.1, λ e. on.0.2 (exchanged_apart s c t e)), on.1)
gate_on s (Rz t e) h on = (exchanged_below s t h on.0, on.1)

pub renamed_on : (s : ℕ) (c : Circuit) → s < 2 → IsOn 3 3 c → IsOn 3 3 (renamed s c)
renamed_on s [] h on = tt
renamed_on s (g ∷ c) h on = (gate_on s g h on.0, renamed_on s c h on.1)
