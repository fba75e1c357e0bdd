-- A rule whose qubits are renamed is usable just where the rule is, and so has the same children in any case.
use Rattle.std.proofs.Common.{◌≡◌, ◌≢◌, ℕ, ◌<◌, ◌==◌, ◌&&◌, ◌||◌, Bool, true, false, not, if◌then◌else◌, List, [], ◌∷◌, ◌++◌, map, length, refl, sym, ap, ◌∙◌, ◌⊎◌, inl, inr, nat_lt}
use Rattle.std.specs.List.{AllByRecursion, flat_map, list_any, list_all}
use Rattle.std.proofs.lemmas.Bool.{cases_eq, eq-eqb, ne_eqb}
use Rattle.std.proofs.lemmas.List.{length-map}
use Rattle.qz_circ.specs.declared.circuit.Op.{Op}
use Rattle.qz_circ.specs.declared.circuit.Op.TheVariants.{H, X, Cx, Rz}
use Rattle.qz_circ.specs.Circuit.{Circuit, IsOn}
use Rattle.qz_circ.specs.Places.{rule_qubits_of, params_of, is_listed, rule_shares, sidings, is_apart, are_apart, is_connected, all_places, places, is_usable}
use Rattle.qz_circ.specs.ProgramCircuits.{ProgramCircuit, IsProgramGate}
use Rattle.qz_circ.specs.Replacement.{replaced, children_by}
use Rattle.qz_rewrite.specs.Renaming.{exchanged, renamed_gate, renamed}
use Rattle.qz_rewrite.proofs.Renamed.{exchanged_apart, renamed_children}

-- ---- numbers of qubits

same_test : (s t u : ℕ) → (exchanged s t == exchanged s u) ≡ (t == u)
same_test s t u = by (cases_eq t u)
  where
    by : (t ≡ u) ⊎ (t ≢ u) → (exchanged s t == exchanged s u) ≡ (t == u)
    by (inl e) = eq-eqb (exchanged s t) (exchanged s u) (ap (exchanged s) e) ∙ sym (eq-eqb t u e)
    by (inr n) = ne_eqb (exchanged s t) (exchanged s u) (λ e. n (exchanged_apart s t u e)) ∙ sym (ne_eqb t u n)

same_listed : (s : ℕ) (numbers : List ℕ) (t : ℕ) → is_listed (map (exchanged s) numbers) (exchanged s t) ≡ is_listed numbers t
same_listed s [] t = refl
same_listed s (u ∷ us) t = λ i. same_test s u t i || same_listed s us t i

any_listed : (s : ℕ) (numbers ts : List ℕ) → list_any (is_listed (map (exchanged s) numbers)) (map (exchanged s) ts) ≡ list_any (is_listed numbers) ts
any_listed s numbers [] = refl
any_listed s numbers (t ∷ ts) = λ i. same_listed s numbers t i || any_listed s numbers ts i

all_listed : (s : ℕ) (numbers ts : List ℕ) → list_all (is_listed (map (exchanged s) numbers)) (map (exchanged s) ts) ≡ list_all (is_listed numbers) ts
all_listed s numbers [] = refl
all_listed s numbers (t ∷ ts) = λ i. same_listed s numbers t i && all_listed s numbers ts i

-- ---- gates

gate_qubits : (s : ℕ) (g : Op) → rule_qubits_of (renamed_gate s g) ≡ map (exchanged s) (rule_qubits_of g)
gate_qubits s (H t) = refl
gate_qubits s (X t) = refl
gate_qubits s (Cx c t) = refl
gate_qubits s (Rz t e) = refl

gate_params : (s : ℕ) (g : Op) → params_of (renamed_gate s g) ≡ params_of g
gate_params s (H t) = refl
gate_params s (X t) = refl
gate_params s (Cx c t) = refl
gate_params s (Rz t e) = refl

same_shares : (s : ℕ) (f g : Op) → rule_shares (renamed_gate s f) (renamed_gate s g) ≡ rule_shares f g
same_shares s f g =
    (λ i. list_any (is_listed (gate_qubits s g i)) (gate_qubits s f i)) ∙ any_listed s (rule_qubits_of g) (rule_qubits_of f)

-- ---- circuits

map_joined : {A B : Type 0} (f : A → B) (xs ys : List A) → map f (xs ++ ys) ≡ map f xs ++ map f ys
map_joined f [] ys = refl
map_joined f (x ∷ xs) ys = ap (λ zs. f x ∷ zs) (map_joined f xs ys)

circuit_qubits : (s : ℕ) (c : Circuit) → flat_map rule_qubits_of (renamed s c) ≡ map (exchanged s) (flat_map rule_qubits_of c)
circuit_qubits s [] = refl
circuit_qubits s (g ∷ c) =
    (λ i. gate_qubits s g i ++ circuit_qubits s c i) ∙ sym (map_joined (exchanged s) (rule_qubits_of g) (flat_map rule_qubits_of c))

circuit_params : (s : ℕ) (c : Circuit) → flat_map params_of (renamed s c) ≡ flat_map params_of c
circuit_params s [] = refl
circuit_params s (g ∷ c) = λ i. gate_params s g i ++ circuit_params s c i

one_apart : (s : ℕ) (side : Bool) (g : Op) (sides : List Bool) (c : Circuit) → is_apart side (renamed_gate s g) sides (renamed s c) ≡ is_apart side g sides c
unfolding is_apart
one_apart s side g (other ∷ sides) (f ∷ c) =
    λ i. ((if side then other else not other) || not (same_shares s g f i)) && one_apart s side g sides c i
one_apart s side g [] c = refl
one_apart s side g (other ∷ sides) [] = refl

all_apart : (s : ℕ) (sides : List Bool) (c : Circuit) → are_apart sides (renamed s c) ≡ are_apart sides c
unfolding are_apart
all_apart s (side ∷ sides) (g ∷ c) = λ i. one_apart s side g sides c i && all_apart s sides c i
all_apart s [] c = refl
all_apart s (side ∷ sides) [] = refl

same_connected : (s : ℕ) (c : Circuit) → is_connected (renamed s c) ≡ is_connected c
unfolding is_connected
same_connected s c =
    λ i. list_all (λ sides. not (all_apart s sides c i) || list_all (λ side. side) sides || list_all not sides) (sidings (length-map c (renamed_gate s) i))

-- ---- rules

pub renamed_usable : (s : ℕ) (left right : Circuit) → is_usable (renamed s left) (renamed s right) ≡ is_usable left right
unfolding is_usable
renamed_usable s left right =
    (λ i. nat_lt 0 (length-map left (renamed_gate s) i) && same_connected s left i && list_all (is_listed (circuit_qubits s left i)) (circuit_qubits s right i) && list_all (is_listed (circuit_params s left i)) (circuit_params s right i))
    ∙ (λ i. nat_lt 0 (length left) && is_connected left && all_listed s (flat_map rule_qubits_of left) (flat_map rule_qubits_of right) i && list_all (is_listed (flat_map params_of left)) (flat_map params_of right))

pub unusable_childless : (left right : Circuit) (c : ProgramCircuit) → is_usable left right ≡ false → children_by left right c ≡ []
unfolding children_by places
unusable_childless left right c e = λ i. map (replaced c right) (if e i then all_places left c else [])

pub renamed_same : (s : ℕ) (left right : Circuit) (c : ProgramCircuit) → s < 2 → IsOn 3 3 left → IsOn 3 3 right → AllByRecursion (IsProgramGate 64) c → children_by (renamed s left) (renamed s right) c ≡ children_by left right c
renamed_same s left right c few on_left on_right lawful = by (is_usable left right) refl
  where
    by : (b : Bool) → is_usable left right ≡ b → children_by (renamed s left) (renamed s right) c ≡ children_by left right c
    by true e = renamed_children s left right c few on_left on_right lawful e (renamed_usable s left right ∙ e)
    by false e =
        unusable_childless (renamed s left) (renamed s right) c (renamed_usable s left right ∙ e) ∙ sym (unusable_childless left right c e)
