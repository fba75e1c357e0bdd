-- Bindings: what stood still stands, and the gates that a left side binds to are its instance.
use Rattle.std.proofs.Common.{◌≡◌, ◌≢◌, ℕ, zero, suc, ◌+◌, ◌-◌, ◌%◌, ◌<◌, ◌==◌, Bool, true, false, if◌then◌else◌, [], ◌∷◌, length, Option, Some, None, refl, sym, ap, ◌∙◌, subst, arith, ◌⊎◌, inl, inr}
use Rattle.std.specs.Prelude.{slice_set}
use Rattle.std.specs.List.{AllByRecursion}
use Rattle.std.specs.Option.{option_map, unwrap_or}
use Rattle.std.proofs.lemmas.Bool.{cases_eq, eqb-true, eq-eqb, ne_eqb, or_parts}
use Rattle.std.proofs.lemmas.List.{get_or-set_same, get_or-set_other, length-set}
use Rattle.qz_circ.specs.declared.binding.Binding.{Binding}
use Rattle.qz_circ.specs.declared.circuit.Expr.{Expr}
use Rattle.qz_circ.specs.declared.circuit.Expr.TheVariants.{Const, Plus, Minus, Sum}
use Rattle.qz_circ.specs.declared.circuit.Op.{Op}
use Rattle.qz_circ.specs.declared.circuit.Op.TheVariants.{H, X, Cx, Rz}
use Rattle.qz_circ.specs.declared.circuit.Inst.{Inst}
use Rattle.qz_circ.specs.declared.circuit.Inst.TheVariants.{H as ProgramH, X as ProgramX, Cx as ProgramCx, Rz as ProgramRz}
use Rattle.qz_circ.specs.Circuit.{Circuit, IsOn, ActsBelow, HasBelow, AngleHasBelow}
use Rattle.qz_circ.specs.Exponent.{angle_value}
use Rattle.qz_circ.specs.ProgramCircuits.{ProgramCircuit, IsProgramGate}
use Rattle.qz_circ.specs.Instances.{slot, qubit_of, param_of, instance_gate, instance_of, bound_instance, IsBinding, IsBoundCircuit, QubitsBound, ParamsBound, AngleBound}
use Rattle.qz_circ.specs.Places.{Slots, and_then, stands_in, bind_where, bind_qubit, bind_qubits, value_of_angle, filled, filled_sum, solved, is_value, bind_angle, binding_with, bind_gate, bind_gates, nothing_bound}

-- ---- what binds further

-- both parts of what binds in two parts
pub and_then-some : {A B : Type 0} (o : Option A) (next : A → Option B) (y : B) → and_then o next ≡ Some y → (x : A) × (o ≡ Some x) × (next x ≡ Some y)
and_then-some None next y h = cc
and_then-some (Some x) next y h = (x, refl, h)

-- ---- slots

-- what stood still stands
pub record Keeps (old next : Slots) : Type 0 where
  pub kept : (s w : ℕ) → slot old s ≡ Some w → slot next s ≡ Some w

pub keeps_same : (slots : Slots) → Keeps slots slots
keeps_same slots = record { kept = λ s w h. h }

pub keeps_twice : {a b c : Slots} → Keeps a b → Keeps b c → Keeps a c
keeps_twice h k = record { kept = λ s w e. k.kept s w (h.kept s w e) }

-- no two slots have the same qubit
pub record AreDifferent (slots : Slots) : Type 0 where
  pub different : (s t w : ℕ) → slot slots s ≡ Some w → slot slots t ≡ Some w → s ≡ t

-- each value is below 512
pub record AreBelow (slots : Slots) : Type 0 where
  pub below : (i v : ℕ) → slot slots i ≡ Some v → v < 512

-- what stood in no slot stands at none
pub stands_nowhere : (w : ℕ) (slots : Slots) → stands_in w slots ≡ false → (t : ℕ) → slot slots t ≢ Some w
stands_nowhere w [] h t e = cc
stands_nowhere w (None ∷ slots) h zero e = cc
stands_nowhere w (None ∷ slots) h (suc t) e = stands_nowhere w slots h t e
stands_nowhere w (Some v ∷ slots) h zero e =
    let parts = or_parts (v == w) (stands_in w slots) h in
    by (cases_eq v w) parts.0
  where
    by : (v ≡ w) ⊎ (v ≢ w) → (v == w) ≡ false → ⊥
    by (inl same) differ = let equal : (v == w) ≡ true = eq-eqb v w same in cc
    by (inr other) differ = other cc
stands_nowhere w (Some v ∷ slots) h (suc t) e = stands_nowhere w slots (or_parts (v == w) (stands_in w slots) h).1 t e

-- a free slot that gets something keeps what stood
set_keeps : (slots : Slots) (s : ℕ) (o : Option ℕ) → slot slots s ≡ None → Keeps slots (slice_set slots s o)
set_keeps slots s o free = record { kept = λ t w h. by t w h (cases_eq t s) }
  where
    by : (t w : ℕ) → slot slots t ≡ Some w → (t ≡ s) ⊎ (t ≢ s) → slot (slice_set slots s o) t ≡ Some w
    by t w h (inl same) = let here : slot slots t ≡ None = ap (slot slots) same ∙ free in cc
    by t w h (inr other) = get_or-set_other slots s t o None other ∙ h

-- ---- qubits

-- the qubit s of a rule came to stand for w
pub record BindsQubit (old : Slots) (s w : ℕ) (next : Slots) : Type 0 where
  pub keeps : Keeps old next
  pub bound : slot next s ≡ Some w
  pub size : length next ≡ length old
  pub different : AreDifferent old → AreDifferent next

bind_where-is : (old : Slots) (s w : ℕ) (o : Option ℕ) (next : Slots) → s < length old → slot old s ≡ o → bind_where old s w o ≡ Some next → BindsQubit old s w next
bind_where-is old s w (Some v) next l here h = by (v == w) refl h
  where
    by : (b : Bool) → (v == w) ≡ b → (if b then Some old else None) ≡ Some next → BindsQubit old s w next
    by false e k = absurd (let no : None ≡ Some next = k in cc)
    by true e k =
        let same : v ≡ w = eqb-true v w e in
        let moved : old ≡ next = cc in
        subst (λ n. BindsQubit old s w n) moved (record { keeps = keeps_same old; bound = here ∙ ap Some same; size = refl; different = λ d. d })
bind_where-is old s w None next l here h = by (stands_in w old) refl h
  where
    apart : stands_in w old ≡ false → AreDifferent old → (a b v : ℕ) → (a ≡ s) ⊎ (a ≢ s) → (b ≡ s) ⊎ (b ≢ s) → slot (slice_set old s (Some w)) a ≡ Some v → slot (slice_set old s (Some w)) b ≡ Some v → a ≡ b
    apart free d a b v (inl i) (inl j) h k = i ∙ sym j
    apart free d a b v (inl i) (inr j) h k =
        let there : slot (slice_set old s (Some w)) a ≡ Some w = ap (slot (slice_set old s (Some w))) i ∙ get_or-set_same old s (Some w) None l in
        let kept : slot old b ≡ Some v = sym (get_or-set_other old s b (Some w) None j) ∙ k in
        let met : slot old b ≡ Some w = cc in
        absurd (stands_nowhere w old free b met)
    apart free d a b v (inr i) (inl j) h k =
        let there : slot (slice_set old s (Some w)) b ≡ Some w = ap (slot (slice_set old s (Some w))) j ∙ get_or-set_same old s (Some w) None l in
        let kept : slot old a ≡ Some v = sym (get_or-set_other old s a (Some w) None i) ∙ h in
        let met : slot old a ≡ Some w = cc in
        absurd (stands_nowhere w old free a met)
    apart free d a b v (inr i) (inr j) h k =
        d.different a b v (sym (get_or-set_other old s a (Some w) None i) ∙ h) (sym (get_or-set_other old s b (Some w) None j) ∙ k)

    by : (b : Bool) → stands_in w old ≡ b → (if b then None else Some (slice_set old s (Some w))) ≡ Some next → BindsQubit old s w next
    by true e k = absurd (let no : None ≡ Some next = k in cc)
    by false e k =
        let moved : slice_set old s (Some w) ≡ next = cc in
        subst (λ n. BindsQubit old s w n) moved (record {
          keeps = set_keeps old s (Some w) here;
          bound = get_or-set_same old s (Some w) None l;
          size = length-set old s (Some w);
          different = λ d. record { different = λ a b v h k. apart e d a b v (cases_eq a s) (cases_eq b s) h k };
        })

pub bind_qubit-is : (old : Slots) (s w : ℕ) (next : Slots) → s < length old → bind_qubit old s w ≡ Some next → BindsQubit old s w next
bind_qubit-is old s w next l h = bind_where-is old s w (slot old s) next l refl h

-- ---- angles

-- an angle has a value, and keeps it
value_kept : (old next : Slots) (e : Expr) (k : ℕ) → Keeps old next → value_of_angle old e ≡ Some k → value_of_angle next e ≡ Some k
value_kept old next (Const t) k keeps h = h
value_kept old next (Plus i) k keeps h = keeps.kept i k h
value_kept old next (Minus i) k keeps h = by (slot old i) refl h
  where
    by : (o : Option ℕ) → slot old i ≡ o → option_map (λ v. (512 - v) % 512) o ≡ Some k → option_map (λ v. (512 - v) % 512) (slot next i) ≡ Some k
    by None e g = cc
    by (Some v) e g = rw (keeps.kept i v e) g
value_kept old next (Sum i j) k keeps h = by (slot old i) (slot old j) refl refl h
  where
    by : (o p : Option ℕ) → slot old i ≡ o → slot old j ≡ p → and_then o (λ v. option_map (λ w. (v + w) % 512) p) ≡ Some k → and_then (slot next i) (λ v. option_map (λ w. (v + w) % 512) (slot next j)) ≡ Some k
    by None p d e g = cc
    by (Some v) None d e g = cc
    by (Some v) (Some w) d e g = rw (keeps.kept i v d, keeps.kept j w e) g

-- the parameters of an angle may have got values
pub record Solves (old next : Slots) : Type 0 where
  pub keeps : Keeps old next
  pub size : length next ≡ length old
  pub below : AreBelow old → AreBelow next

solves_same : (slots : Slots) → Solves slots slots
solves_same slots = record { keeps = keeps_same slots; size = refl; below = λ b. b }

solves_set : (slots : Slots) (i v : ℕ) → i < length slots → v < 512 → slot slots i ≡ None → Solves slots (slice_set slots i (Some v))
solves_set slots i v l few free = record {
  keeps = set_keeps slots i (Some v) free;
  size = length-set slots i (Some v);
  below = λ b. record { below = λ t u h. by b t u h (cases_eq t i) };
}
  where
    by : AreBelow slots → (t u : ℕ) → slot (slice_set slots i (Some v)) t ≡ Some u → (t ≡ i) ⊎ (t ≢ i) → u < 512
    by b t u h (inl same) =
        let there : slot (slice_set slots i (Some v)) t ≡ Some v = ap (slot (slice_set slots i (Some v))) same ∙ get_or-set_same slots i (Some v) None l in
        let value : v ≡ u = cc in
        omega arith
    by b t u h (inr other) = b.below t u (sym (get_or-set_other slots i t (Some v) None other) ∙ h)

filled-solves : (slots : Slots) (i v : ℕ) (o : Option ℕ) → i < length slots → v < 512 → slot slots i ≡ o → Solves slots (filled slots i v o)
filled-solves slots i v None l few h = solves_set slots i v l few h
filled-solves slots i v (Some w) l few h = solves_same slots

filled_sum-solves : (slots : Slots) (i j k : ℕ) (o p : Option ℕ) → i < length slots → j < length slots → slot slots i ≡ o → slot slots j ≡ p → Solves slots (filled_sum slots i j k o p)
filled_sum-solves slots i j k None (Some w) l m g h = solves_set slots i ((k + (512 - w)) % 512) l (omega arith) g
filled_sum-solves slots i j k (Some v) None l m g h = solves_set slots j ((k + (512 - v)) % 512) m (omega arith) h
filled_sum-solves slots i j k None None l m g h = solves_same slots
filled_sum-solves slots i j k (Some v) (Some w) l m g h = solves_same slots

solved-solves : (slots : Slots) (e : Expr) (k : ℕ) → AngleHasBelow (length slots) e → k < 512 → Solves slots (solved slots e k)
solved-solves slots (Const t) k l few = solves_same slots
solved-solves slots (Plus i) k l few = filled-solves slots i k (slot slots i) l few refl
solved-solves slots (Minus i) k l few = filled-solves slots i ((512 - k) % 512) (slot slots i) l (omega arith) refl
solved-solves slots (Sum i j) k l few = filled_sum-solves slots i j k (slot slots i) (slot slots j) l.0 l.1 refl refl

-- what passes the test of a value has it
pub is_value-is : (k : ℕ) (o : Option ℕ) → is_value k o ≡ true → o ≡ Some k
is_value-is k None h = cc
is_value-is k (Some v) h = ap Some (eqb-true v k h)

-- the angle e came to have the value k
pub record BindsAngle (old : Slots) (e : Expr) (k : ℕ) (next : Slots) : Type 0 where
  pub solves : Solves old next
  pub value : value_of_angle next e ≡ Some k

pub bind_angle-is : (old : Slots) (e : Expr) (k : ℕ) (next : Slots) → AngleHasBelow (length old) e → k < 512 → bind_angle old e k ≡ Some next → BindsAngle old e k next
bind_angle-is old e k next l few h = by (is_value k (value_of_angle (solved old e k) e)) refl h
  where
    by : (b : Bool) → is_value k (value_of_angle (solved old e k) e) ≡ b → (if b then Some (solved old e k) else None) ≡ Some next → BindsAngle old e k next
    by false v g = absurd (let no : None ≡ Some next = g in cc)
    by true v g =
        let moved : solved old e k ≡ next = cc in
        subst (λ n. BindsAngle old e k n) moved (record { solves = solved-solves old e k l few; value = is_value-is k (value_of_angle (solved old e k) e) v })

-- ---- gates

-- the gate of the rule becomes this one of the program
abbrev pub IsGateOf : Binding → Op → Inst → Type 0
IsGateOf bind (H t) (ProgramH w) = slot bind.qubits t ≡ Some w
IsGateOf bind (X t) (ProgramX w) = slot bind.qubits t ≡ Some w
IsGateOf bind (Cx c t) (ProgramCx v w) = (slot bind.qubits c ≡ Some v) × (slot bind.qubits t ≡ Some w)
IsGateOf bind (Rz t e) (ProgramRz w k) = (slot bind.qubits t ≡ Some w) × (value_of_angle bind.params e ≡ Some k)
IsGateOf bind f g = ⊥

-- gate by gate
abbrev pub AreGatesOf : Binding → Circuit → ProgramCircuit → Type 0
AreGatesOf bind [] [] = Unit {0}
AreGatesOf bind (f ∷ left) (g ∷ gates) = IsGateOf bind f g × AreGatesOf bind left gates
AreGatesOf bind left gates = ⊥

-- what a binding keeps throughout
pub record IsSound (bind : Binding) : Type 0 where
  pub qubits_size : length bind.qubits ≡ 3
  pub params_size : length bind.params ≡ 3
  pub different : AreDifferent bind.qubits
  pub below : AreBelow bind.params

-- a binding that was made from another one
pub record Grows (old next : Binding) : Type 0 where
  pub qubits : Keeps old.qubits next.qubits
  pub params : Keeps old.params next.params
  pub sound : IsSound next

pub is_gate-kept : (old next : Binding) (f : Op) (g : Inst) → Grows old next → IsGateOf old f g → IsGateOf next f g
is_gate-kept old next (H t) (ProgramH w) grows h = grows.qubits.kept t w h
is_gate-kept old next (X t) (ProgramX w) grows h = grows.qubits.kept t w h
is_gate-kept old next (Cx c t) (ProgramCx v w) grows h = (grows.qubits.kept c v h.0, grows.qubits.kept t w h.1)
is_gate-kept old next (Rz t e) (ProgramRz w k) grows h = (grows.qubits.kept t w h.0, value_kept old.params next.params e k grows.params h.1)
is_gate-kept old next f g grows h = absurd h

pub are_gates-kept : (old next : Binding) (left : Circuit) (gates : ProgramCircuit) → Grows old next → AreGatesOf old left gates → AreGatesOf next left gates
are_gates-kept old next [] [] grows h = tt
are_gates-kept old next (f ∷ left) (g ∷ gates) grows h = (is_gate-kept old next f g grows h.0, are_gates-kept old next left gates grows h.1)
are_gates-kept old next [] (g ∷ gates) grows h = absurd h
are_gates-kept old next (f ∷ left) [] grows h = absurd h

-- a gate came to be one of a rule's
pub record BindsGate (old : Binding) (f : Op) (g : Inst) (next : Binding) : Type 0 where
  pub grows : Grows old next
  pub gate : IsGateOf next f g

-- a qubit bound beside parameters that stand
one_bound : (old : Binding) (params : Slots) (s w : ℕ) (next : Binding) → IsSound old → Solves old.params params → s < 3 → binding_with params (bind_qubit old.qubits s w) ≡ Some next → Grows old next × (slot next.qubits s ≡ Some w) × (next.params ≡ params)
one_bound old params s w next sound solves few h = by (bind_qubit old.qubits s w) refl h
  where
    by : (o : Option Slots) → bind_qubit old.qubits s w ≡ o → binding_with params o ≡ Some next → Grows old next × (slot next.qubits s ≡ Some w) × (next.params ≡ params)
    by None e g = absurd (let stuck : None ≡ Some next = g in cc)
    by (Some qubits) e g =
        let moved : record { qubits = qubits; params = params } ≡ next = cc in
        let size = sound.qubits_size in
        let bound = bind_qubit-is old.qubits s w qubits (omega arith) e in
        subst (λ (n : Binding). Grows old n × (slot n.qubits s ≡ Some w) × (n.params ≡ params)) moved (
          record {
            qubits = bound.keeps;
            params = solves.keeps;
            sound = record {
              qubits_size = bound.size ∙ size;
              params_size = solves.size ∙ sound.params_size;
              different = bound.different sound.different;
              below = solves.below sound.below;
            };
          },
          bound.bound,
          refl,
        )

two_bound : (old : Binding) (c t v w : ℕ) (next : Binding) → IsSound old → c < 3 → t < 3 → binding_with old.params (bind_qubits old.qubits (c ∷ t ∷ []) (v ∷ w ∷ [])) ≡ Some next → Grows old next × (slot next.qubits c ≡ Some v) × (slot next.qubits t ≡ Some w)
two_bound old c t v w next sound few also h = first (bind_qubit old.qubits c v) refl h
  where
    second : (qubits : Slots) → BindsQubit old.qubits c v qubits → (o : Option Slots) → bind_qubit qubits t w ≡ o → binding_with old.params (and_then o (λ n. Some n)) ≡ Some next → Grows old next × (slot next.qubits c ≡ Some v) × (slot next.qubits t ≡ Some w)
    second qubits one None e g = absurd (let stuck : None ≡ Some next = g in cc)
    second qubits one (Some more) e g =
        let moved : record { qubits = more; params = old.params } ≡ next = cc in
        let size = sound.qubits_size in
        let same = one.size in
        let two = bind_qubit-is qubits t w more (omega arith) e in
        subst (λ (n : Binding). Grows old n × (slot n.qubits c ≡ Some v) × (slot n.qubits t ≡ Some w)) moved (
          record {
            qubits = keeps_twice one.keeps two.keeps;
            params = keeps_same old.params;
            sound = record {
              qubits_size = two.size ∙ same ∙ size;
              params_size = sound.params_size;
              different = two.different (one.different sound.different);
              below = sound.below;
            };
          },
          two.keeps.kept c v one.bound,
          two.bound,
        )

    first : (o : Option Slots) → bind_qubit old.qubits c v ≡ o → binding_with old.params (and_then o (λ n. and_then (bind_qubit n t w) (λ m. Some m))) ≡ Some next → Grows old next × (slot next.qubits c ≡ Some v) × (slot next.qubits t ≡ Some w)
    first None e g = absurd (let stuck : None ≡ Some next = g in cc)
    first (Some qubits) e g =
        let size = sound.qubits_size in
        second qubits (bind_qubit-is old.qubits c v qubits (omega arith) e) (bind_qubit qubits t w) refl g

rotation_bound : (q : ℕ) (old : Binding) (t : ℕ) (e : Expr) (w k : ℕ) (next : Binding) → IsSound old → t < 3 → AngleHasBelow 3 e → k < 512 → bind_gate old (Rz t e) (ProgramRz w k) ≡ Some next → BindsGate old (Rz t e) (ProgramRz w k) next
rotation_bound q old t e w k next sound few has angle h =
    let parts = and_then-some (bind_angle old.params e k) (λ params. binding_with params (bind_qubit old.qubits t w)) next h in
    let params = parts.0 in
    let has_so : AngleHasBelow (length old.params) e = subst (λ n. AngleHasBelow n e) (sym sound.params_size) has in
    let bound = bind_angle-is old.params e k params has_so angle parts.1 in
    let all = one_bound old params t w next sound bound.solves few parts.2 in
    record { grows = all.0; gate = (all.1, subst (λ p. value_of_angle p e ≡ Some k) (sym all.2) bound.value) }

pub bind_gate-is : (q : ℕ) (old : Binding) (f : Op) (g : Inst) (next : Binding) → IsSound old → ActsBelow 3 f × HasBelow 3 f → IsProgramGate q g → bind_gate old f g ≡ Some next → BindsGate old f g next
bind_gate-is q old (H t) (ProgramH w) next sound on lawful h =
    let all = one_bound old old.params t w next sound (solves_same old.params) on.0 h in record { grows = all.0; gate = all.1 }
bind_gate-is q old (X t) (ProgramX w) next sound on lawful h =
    let all = one_bound old old.params t w next sound (solves_same old.params) on.0 h in record { grows = all.0; gate = all.1 }
bind_gate-is q old (Cx c t) (ProgramCx v w) next sound on lawful h =
    let all = two_bound old c t v w next sound on.0.0 on.0.1 h in record { grows = all.0; gate = (all.1, all.2) }
bind_gate-is q old (Rz t e) (ProgramRz w k) next sound on lawful h = rotation_bound q old t e w k next sound on.0 on.1 lawful.2 h
bind_gate-is q old f g next sound on lawful h = absurd (let stuck : None ≡ Some next = h in cc)

-- ---- all gates

-- a left side came to be gates of a program
pub record BindsGates (old : Binding) (left : Circuit) (gates : ProgramCircuit) (next : Binding) : Type 0 where
  pub grows : Grows old next
  pub all : AreGatesOf next left gates

grows_twice : {a b c : Binding} → Grows a b → Grows b c → Grows a c
grows_twice h k = record { qubits = keeps_twice h.qubits k.qubits; params = keeps_twice h.params k.params; sound = k.sound }

pub bind_gates-is : (q : ℕ) (old : Binding) (left : Circuit) (gates : ProgramCircuit) (next : Binding) → IsSound old → IsOn 3 3 left → AllByRecursion (IsProgramGate q) gates → bind_gates old left gates ≡ Some next → BindsGates old left gates next
unfolding bind_gates
bind_gates-is q old [] [] next sound on lawful h =
    let moved : old ≡ next = cc in
    subst (λ n. BindsGates old [] [] n) moved (record { grows = record { qubits = keeps_same old.qubits; params = keeps_same old.params; sound = sound }; all = tt })
bind_gates-is q old (f ∷ left) (g ∷ gates) next sound on lawful h =
    let parts = and_then-some (bind_gate old f g) (λ bind. bind_gates bind left gates) next h in
    let one = bind_gate-is q old f g parts.0 sound on.0 lawful.0 parts.1 in
    let more = bind_gates-is q parts.0 left gates next one.grows.sound on.1 lawful.1 parts.2 in
    record { grows = grows_twice one.grows more.grows; all = (is_gate-kept parts.0 next f g more.grows one.gate, more.all) }
bind_gates-is q old [] (g ∷ gates) next sound on lawful h = absurd (let stuck : None ≡ Some next = h in cc)
bind_gates-is q old (f ∷ left) [] next sound on lawful h = absurd (let stuck : None ≡ Some next = h in cc)

pub nothing_bound-sound : IsSound nothing_bound
nothing_bound-sound = record {
  qubits_size = refl;
  params_size = refl;
  different = record { different = λ s t w h k. absurd (none s w h) };
  below = record { below = λ i v h. absurd (none i v h) };
}
  where
    none : (s w : ℕ) → slot (None ∷ None ∷ None ∷ []) s ≢ Some w
    none zero w h = cc
    none (suc zero) w h = cc
    none (suc (suc zero)) w h = cc
    none (suc (suc (suc s))) w h = cc

-- ---- the instance

-- an angle with a value has it under the values of its parameters
angle_bound : (params : Slots) (e : Expr) (k : ℕ) → AreBelow params → value_of_angle params e ≡ Some k → angle_value (λ i. unwrap_or (slot params i) 0) e ≡ k
angle_bound params (Const t) k below h = cc
angle_bound params (Plus i) k below h = let few = below.below i k h in rw h (omega arith)
angle_bound params (Minus i) k below h = by (slot params i) refl h
  where
    by : (o : Option ℕ) → slot params i ≡ o → option_map (λ v. (512 - v) % 512) o ≡ Some k → (512 - unwrap_or (slot params i) 0 % 512) % 512 ≡ k
    by None e g = absurd (let stuck : None ≡ Some k = g in cc)
    by (Some v) e g =
        let few = below.below i v e in
        let value : (512 - v) % 512 ≡ k = cc in
        let same : v % 512 ≡ v = omega arith in
        rw (e, same) value
angle_bound params (Sum i j) k below h = by (slot params i) (slot params j) refl refl h
  where
    by : (o p : Option ℕ) → slot params i ≡ o → slot params j ≡ p → and_then o (λ v. option_map (λ w. (v + w) % 512) p) ≡ Some k → (unwrap_or (slot params i) 0 + unwrap_or (slot params j) 0) % 512 ≡ k
    by None p d e g = absurd (let stuck : None ≡ Some k = g in cc)
    by (Some v) None d e g = absurd (let stuck : None ≡ Some k = g in cc)
    by (Some v) (Some w) d e g = rw (d, e) cc

-- and each of its parameters has one
params_bound : (bind : Binding) (e : Expr) (k : ℕ) → value_of_angle bind.params e ≡ Some k → AngleBound bind e
params_bound bind (Const t) k h = tt
params_bound bind (Plus i) k h = λ n. cc
params_bound bind (Minus i) k h = λ n. let stuck : None ≡ Some k = rw n at h in cc
params_bound bind (Sum i j) k h = by (slot bind.params i) (slot bind.params j) refl refl h
  where
    by : (o p : Option ℕ) → slot bind.params i ≡ o → slot bind.params j ≡ p → and_then o (λ v. option_map (λ w. (v + w) % 512) p) ≡ Some k → (slot bind.params i ≢ None) × (slot bind.params j ≢ None)
    by None p d e g = absurd (let stuck : None ≡ Some k = g in cc)
    by (Some v) None d e g = absurd (let stuck : None ≡ Some k = g in cc)
    by (Some v) (Some w) d e g = (λ n. cc, λ n. cc)

-- the instance of a gate is the gate that it binds to
gate_instance : (q : ℕ) (bind : Binding) (f : Op) (g : Inst) → AreBelow bind.params → IsProgramGate q g → IsGateOf bind f g → instance_gate (qubit_of bind) (param_of bind) f ≡ g ∷ []
gate_instance q bind (H t) (ProgramH w) below lawful h = rw h
gate_instance q bind (X t) (ProgramX w) below lawful h = rw h
gate_instance q bind (Cx c t) (ProgramCx v w) below lawful h = rw (h.0, h.1)
gate_instance q bind (Rz t e) (ProgramRz w k) below lawful h =
    let value : angle_value (param_of bind) e ≡ k = angle_bound bind.params e k below h.1 in
    let some : (k == 0) ≡ false = ne_eqb k 0 (omega (arith, lawful.1)) in
    rw (value, some, h.0)
gate_instance q bind f g below lawful h = absurd h

pub gates_instance : (q : ℕ) (bind : Binding) (left : Circuit) (gates : ProgramCircuit) → AreBelow bind.params → AllByRecursion (IsProgramGate q) gates → AreGatesOf bind left gates → bound_instance bind left ≡ gates
unfolding instance_of
gates_instance q bind [] [] below lawful h = refl
gates_instance q bind (f ∷ left) (g ∷ gates) below lawful h = rw (gate_instance q bind f g below lawful.0 h.0) (ap (λ gs. g ∷ gs) (gates_instance q bind left gates below lawful.1 h.1))
gates_instance q bind [] (g ∷ gates) below lawful h = absurd h
gates_instance q bind (f ∷ left) [] below lawful h = absurd h

-- qubits below q stand for those of the gate, and its parameters have values
gate_bound : (q : ℕ) (bind : Binding) (f : Op) (g : Inst) → IsProgramGate q g → IsGateOf bind f g → QubitsBound q bind f × ParamsBound bind f
gate_bound q bind (H t) (ProgramH w) lawful h = ((w, lawful, h), tt)
gate_bound q bind (X t) (ProgramX w) lawful h = ((w, lawful, h), tt)
gate_bound q bind (Cx c t) (ProgramCx v w) lawful h = (((v, lawful.0, h.0), (w, lawful.1, h.1)), tt)
gate_bound q bind (Rz t e) (ProgramRz w k) lawful h = ((w, lawful.0, h.0), params_bound bind e k h.1)
gate_bound q bind f g lawful h = absurd h

gates_bound : (q : ℕ) (bind : Binding) (left : Circuit) (gates : ProgramCircuit) → AllByRecursion (IsProgramGate q) gates → AreGatesOf bind left gates → IsBoundCircuit q bind left
gates_bound q bind [] [] lawful h = tt
gates_bound q bind (f ∷ left) (g ∷ gates) lawful h = (gate_bound q bind f g lawful.0 h.0, gates_bound q bind left gates lawful.1 h.1)
gates_bound q bind [] (g ∷ gates) lawful h = absurd h
gates_bound q bind (f ∷ left) [] lawful h = absurd h

-- What a left side binds to is its instance. Different qubits stand for different ones, qubits below q for all of its own, and
-- all its parameters have values.
pub record IsBound (q : ℕ) (bind : Binding) (left : Circuit) (gates : ProgramCircuit) : Type 0 where
  pub instance : bound_instance bind left ≡ gates
  pub lawful : IsBinding bind
  pub bound : IsBoundCircuit q bind left

pub bound : (q : ℕ) (bind : Binding) (left : Circuit) (gates : ProgramCircuit) → IsOn 3 3 left → AllByRecursion (IsProgramGate q) gates → bind_gates nothing_bound left gates ≡ Some bind → IsBound q bind left gates
bound q bind left gates on lawful h =
    let all = bind_gates-is q nothing_bound left gates bind nothing_bound-sound on lawful h in
    record {
      instance = gates_instance q bind left gates all.grows.sound.below lawful all.all;
      lawful = record { different = all.grows.sound.different.different; below_circle = all.grows.sound.below.below };
      bound = gates_bound q bind left gates lawful all.all;
    }
