-- Instances of equivalent circuits are equivalent, and circuits that are equivalent on some qubits are so on more.
use Rattle.std.proofs.Common.{◌≡◌, ℕ, ◌+◌, ◌^◌, ◌<◌, ◌≤◌, ◌==◌, ◌⊎◌, inl, inr, Bool, true, false, [], ◌∷◌, ◌++◌, map, Option, Some, None, refl, sym, ap, subst, ◌∙◌, arith, length, length-append, lt-ltb, le-ltb}
use Rattle.std.specs.Prelude.{if◌then◌else◌, nat_lt}
use Rattle.std.specs.List.{AllByRecursion}
use Rattle.std.specs.Option.{unwrap_or}
use Rattle.std.proofs.lemmas.Bool.{cases_lt}
use Rattle.std.proofs.lemmas.List.{map-id}
use Rattle.qz_circ.specs.declared.binding.Binding.{Binding}
use Rattle.qz_circ.specs.declared.circuit.Op.{Op}
use Rattle.qz_circ.specs.declared.circuit.Op.TheVariants.{H, X, Cx, Rz}
use Rattle.qz_circ.specs.declared.circuit.Inst.TheVariants.{H as ProgramH, X as ProgramX, Cx as ProgramCx, Rz as ProgramRz}
use Rattle.qz_circ.specs.Circuit.{Circuit, ActsBelow, IsOn}
use Rattle.qz_circ.specs.Equivalence.{SameUpTo, Equivalent, scaled_ways}
use Rattle.qz_circ.specs.Exponent.{Exponent, IsExponent, minus, angle_value}
use Rattle.qz_circ.specs.Instances.{instance_gate, instance_of, slot, qubit_of, param_of, bound_instance, IsBinding, IsBoundBelow, QubitsBound, ParamsBound, IsBoundCircuit}
use Rattle.qz_circ.specs.Paths.{Ways, entry, ways_along, paths, count, root2, is_h, halves}
use Rattle.qz_circ.specs.ProgramCircuits.{IsProgramGate, program_entry, program_paths, is_program_h, program_halves, scaled_program_ways, EquivalentProgramCircuits}
use Rattle.qz_circ.proofs.Exponents.{minus_proper}
use Rattle.qz_circ.proofs.ProperWays.{proper_along}
use Rattle.qz_circ.proofs.RisingLists.{each_weaker}
use Rattle.qz_circ.proofs.Roots.{roots, proper_root2}
use Rattle.qz_circ.proofs.RuleGates.{as_gate, as_program_gate, entry_ways, program_entry_ways}
use Rattle.qz_circ.proofs.Through.{gate_ways}
use Rattle.qz_paths.proofs.Equivalences.{scaled}
use Rattle.qz_paths.proofs.Runs.{run, start, same_goes_over, roots_along}
use Rattle.qz_paths.proofs.Congruence.{Alike, alike_as, alike_of, same_of, rule_gates, program_gates}
use Rattle.qz_subst.proofs.Split.{AreDifferent}
use Rattle.qz_subst.proofs.Placed.{placed, IsWithin, alike_placed}
use Rattle.qz_subst.proofs.Turns.{bind, bind_proper, bind_plus, bind_turns}
use Rattle.qz_paths.proofs.Weights.{all_moved}
use Rattle.qz_subst.proofs.MovedWays.{IsChange, moved_along, moved_root2, shifted_moved}
use Rattle.qz_subst.proofs.InstanceGates.{as_bound, GoesBelow, bound_gates, bound_within, instance_gates, instance_halves, instance_run}

-- ---- with values for the parameters

-- the change of exponents by values
is_change : (p : ℕ → ℕ) → IsChange (bind p)
is_change p = record { proper = bind_proper p; products = bind_plus p; turns = bind_turns p }

-- the ways through a rule's gates with values for the parameters
abbrev bound_ways : (ℕ → ℕ) → ℕ → Circuit → Ways
bound_ways p n c = ways_along (λ g. gate_ways (as_bound p g)) n c

-- ways that are the same up to a monomial stay so
same_bound : (p : ℕ → ℕ) (n h k : ℕ) (u : Exponent) (a b : Circuit) → SameUpTo n u (scaled h (ways_along entry n a)) (scaled k (ways_along entry n b)) → SameUpTo n (bind p u) (scaled h (bound_ways p n a)) (scaled k (bound_ways p n b))
same_bound p n h k u a b same = record {
  phase = bind_proper p u;
  counts = λ i j e hi hj he.
      sym (ap (λ ps. count ps e) (with_values h a i j)) ∙
      shifted_moved (bind p) (is_change p) u (root2 h (ways_along entry n a i j)) (root2 k (ways_along entry n b i j)) same.phase
      (proper_root2 h (ways_along entry n a i j) (proper_along entry n a i j)) (proper_root2 k (ways_along entry n b i j) (proper_along entry n b i j))
      (λ x hx. same.counts i j x hi hj hx) e he ∙
      ap (λ ps. count ps (minus e (bind p u))) (with_values k b i j);
}
  where
    with_values : (h : ℕ) (c : Circuit) (i j : ℕ) → all_moved (bind p) (root2 h (ways_along entry n c i j)) ≡ root2 h (bound_ways p n c i j)
    with_values h c i j = moved_root2 (bind p) (is_change p) h (ways_along entry n c i j) ∙ ap (λ (w : Ways). root2 h (w i j)) (moved_along (bind p) (is_change p) entry as_gate entry_ways n c)

-- gates of equivalent circuits differ by a phase, with values for the parameters
alike_bound : (p : ℕ → ℕ) (n k : ℕ) (a b : Circuit) → IsOn n k a → IsOn n k b → Equivalent n a b → (v : Exponent) × IsExponent v × Alike n v (halves b) (halves a) (map (as_bound p) a) (map (as_bound p) b)
unfolding scaled_ways paths
alike_bound p n k a b on_a on_b (u, same) =
    (bind p u, bind_proper p u, alike_of (λ g. gate_ways (as_bound p g)) (as_bound p) (λ g. refl) is_h n (bind p u) (halves b) (halves a) a b (bound_gates n k p a on_a) (bound_gates n k p b on_b) (same_bound p n (halves b) (halves a) u a b same))

-- ---- instances

-- the instance and the rule's gates differ by no phase
alike_instance : (q n h : ℕ) (f p : ℕ → ℕ) (c : Circuit) (i j : ℕ) (e : Exponent) → IsOn n 3 c → AllByRecursion (GoesBelow q f) c → i < 2 ^ q → IsExponent e →
    roots h (run (map as_program_gate (instance_of f p c)) (start j) i) e ≡ roots h (run (map (placed f) (map (as_bound p) c)) (start j) i) e
alike_instance q n h f p c i j e on goes hi he =
    roots_along (λ x. x) same_goes_over h (run (map as_program_gate (instance_of f p c)) (start j) i) (run (map (placed f) (map (as_bound p) c)) (start j) i)
    (instance_run q n f p c (start j) (start j) on goes (λ k hk x hx. refl) i hi) e he

-- instances of equivalent circuits, where different qubits below q stand for the rule's
instances_of_equivalent : (n q : ℕ) (f p : ℕ → ℕ) (a b : Circuit) → AreDifferent f n → IsOn n 3 a → IsOn n 3 b → AllByRecursion (GoesBelow q f) a → AllByRecursion (GoesBelow q f) b → Equivalent n a b →
    EquivalentProgramCircuits q (instance_of f p a) (instance_of f p b)
unfolding scaled_program_ways program_paths
instances_of_equivalent n q f p a b different on_a on_b goes_a goes_b equal =
    let found = alike_bound p n 3 a b on_a on_b equal in
    let v = found.0 in
    let moved = alike_placed f n different q v (halves b) (halves a) (map (as_bound p) a) (map (as_bound p) b) (bound_within n 3 p a on_a) (bound_within n 3 p b on_b) found.2 in
    let first = instance_of f p a in
    let second = instance_of f p b in
    let alike : Alike q v (halves b) (halves a) (map as_program_gate first) (map as_program_gate second) = λ i j hi hj e he.
    alike_instance q n (halves b) f p a i j e on_a goes_a hi he ∙ moved i j hi hj e he ∙
    sym (alike_instance q n (halves a) f p b i j (minus e v) on_b goes_b hi (minus_proper e v)) in (
      v,
      same_of program_entry as_program_gate program_entry_ways is_program_h q v (program_halves second) (program_halves first) first second found.1
          (program_gates q first (instance_gates n q 3 f p different a on_a goes_a)) (program_gates q second (instance_gates n q 3 f p different b on_b goes_b))
          (alike_as q v (halves b) (halves a) (program_halves second) (program_halves first) (map as_program_gate first) (map as_program_gate second) (map as_program_gate first) (map as_program_gate second)
          (sym (instance_halves f p b)) (sym (instance_halves f p a)) refl refl alike),
    )

-- ---- bindings

-- the qubit that stands for a rule's, if one below q does; else one past q
abbrev qubit_below : ℕ → ℕ → Option ℕ → ℕ
qubit_below q s (Some w) = if nat_lt w q then w else q + s
qubit_below q s None = q + s

-- for each of a rule's qubits
abbrev placed_at : ℕ → Binding → ℕ → ℕ
placed_at q bind s = qubit_below q s (slot bind.qubits s)

-- one of both
which : (q s : ℕ) (x : Option ℕ) → ((w : ℕ) × (w < q) × (x ≡ Some w) × (qubit_below q s x ≡ w)) ⊎ (qubit_below q s x ≡ q + s)
which q s None = inr refl
which q s (Some w) = by (cases_lt w q)
  where
    by : (w < q) ⊎ (q ≤ w) → ((v : ℕ) × (v < q) × (Some w ≡ Some v) × ((if nat_lt w q then w else q + s) ≡ v)) ⊎ ((if nat_lt w q then w else q + s) ≡ q + s)
    by (inl less) = inl (w, less, refl, ap (λ b. if b then w else q + s) (lt-ltb w q less))
    by (inr more) = inr (ap (λ b. if b then w else q + s) (le-ltb w q more))

-- so they are different
placed_different : (n q : ℕ) (bind : Binding) → IsBinding bind → AreDifferent (placed_at q bind) n
placed_different n q bind is s t hs ht same = by (which q s (slot bind.qubits s)) (which q t (slot bind.qubits t))
  where
    by : ((w : ℕ) × (w < q) × (slot bind.qubits s ≡ Some w) × (placed_at q bind s ≡ w)) ⊎ (placed_at q bind s ≡ q + s) → ((w : ℕ) × (w < q) × (slot bind.qubits t ≡ Some w) × (placed_at q bind t ≡ w)) ⊎ (placed_at q bind t ≡ q + t) → s ≡ t
    by (inl x) (inl y) = is.different s t x.0 x.2 (y.2 ∙ ap Some (sym y.3 ∙ sym same ∙ x.3))
    by (inl x) (inr y) = let less = x.1 in let here = x.3 in absurd (omega arith)
    by (inr x) (inl y) = let less = y.1 in let here = y.3 in absurd (omega arith)
    by (inr x) (inr y) = omega arith

-- a bound qubit is the same in both ways
bound_there : (q : ℕ) (bind : Binding) (s : ℕ) → IsBoundBelow q bind s → placed_at q bind s ≡ qubit_of bind s
bound_there q bind s bound =
    ap (qubit_below q s) bound.2 ∙ ap (λ b. if b then bound.0 else q + s) (lt-ltb bound.0 q bound.1) ∙ sym (ap (λ x. unwrap_or x (64 + s)) bound.2)

-- and below q
bound_below : (q : ℕ) (bind : Binding) (s : ℕ) → IsBoundBelow q bind s → placed_at q bind s < q
bound_below q bind s bound =
    let same = ap (qubit_below q s) bound.2 ∙ ap (λ b. if b then bound.0 else q + s) (lt-ltb bound.0 q bound.1) in
    let less = bound.1 in
    omega arith

-- so what a gate becomes is the same
gate_there : (q : ℕ) (bind : Binding) (g : Op) → QubitsBound q bind g → instance_gate (placed_at q bind) (param_of bind) g ≡ instance_gate (qubit_of bind) (param_of bind) g
gate_there q bind (H t) bound = ap (λ w. ProgramH w ∷ []) (bound_there q bind t bound)
gate_there q bind (X t) bound = ap (λ w. ProgramX w ∷ []) (bound_there q bind t bound)
gate_there q bind (Cx c t) bound = λ d. ProgramCx (bound_there q bind c bound.0 d) (bound_there q bind t bound.1 d) ∷ []
gate_there q bind (Rz t e) bound = ap (λ w. if angle_value (param_of bind) e == 0 then [] else ProgramRz w (angle_value (param_of bind) e) ∷ []) (bound_there q bind t bound)

-- and so is the instance
instance_there : (q : ℕ) (bind : Binding) (c : Circuit) → IsBoundCircuit q bind c → instance_of (placed_at q bind) (param_of bind) c ≡ bound_instance bind c
unfolding instance_of
instance_there q bind [] bound = refl
instance_there q bind (g ∷ c) bound = λ d. gate_there q bind g bound.0.0 d ++ instance_there q bind c bound.1 d

-- the qubits of a gate go below q
gate_below : (q : ℕ) (bind : Binding) (g : Op) → QubitsBound q bind g × ParamsBound bind g → GoesBelow q (placed_at q bind) g
gate_below q bind (H t) bound = bound_below q bind t bound.0
gate_below q bind (X t) bound = bound_below q bind t bound.0
gate_below q bind (Cx c t) bound = (bound_below q bind c bound.0.0, bound_below q bind t bound.0.1)
gate_below q bind (Rz t e) bound = bound_below q bind t bound.0

circuit_below : (q : ℕ) (bind : Binding) (c : Circuit) → IsBoundCircuit q bind c → AllByRecursion (GoesBelow q (placed_at q bind)) c
circuit_below q bind c bound = each_weaker (λ g. QubitsBound q bind g × ParamsBound bind g) (GoesBelow q (placed_at q bind)) (gate_below q bind) c bound

-- instances of equivalent circuits under a binding are equivalent
pub bound_instances : (n q : ℕ) (bind : Binding) (a b : Circuit) → IsBinding bind → IsOn n 3 a → IsOn n 3 b → IsBoundCircuit q bind a → IsBoundCircuit q bind b → Equivalent n a b → EquivalentProgramCircuits q (bound_instance bind a) (bound_instance bind b)
bound_instances n q bind a b is on_a on_b bound_a bound_b equal =
    subst (λ x. EquivalentProgramCircuits q x (bound_instance bind b)) (instance_there q bind a bound_a)
    (subst (λ x. EquivalentProgramCircuits q (instance_of (placed_at q bind) (param_of bind) a) x) (instance_there q bind b bound_b)
    (instances_of_equivalent n q (placed_at q bind) (param_of bind) a b (placed_different n q bind is) on_a on_b (circuit_below q bind a bound_a) (circuit_below q bind b bound_b) equal))

-- an instance is made of gates of a program
pub bound_gates_are : (n k q : ℕ) (bind : Binding) (c : Circuit) → IsBinding bind → IsOn n k c → IsBoundCircuit q bind c → AllByRecursion (IsProgramGate q) (bound_instance bind c)
bound_gates_are n k q bind c is on bound =
    subst (AllByRecursion (IsProgramGate q)) (instance_there q bind c bound)
    (instance_gates n q k (placed_at q bind) (param_of bind) (placed_different n q bind is) c on (circuit_below q bind c bound))

-- an instance has at most as many gates as the circuit
pub instance_length : (bind : Binding) (c : Circuit) → length (bound_instance bind c) ≤ length c
unfolding instance_of
instance_length bind [] = omega arith
instance_length bind (g ∷ c) =
    let one = gate_length g in
    let more = instance_length bind c in
    omega (arith, length-append (instance_gate (qubit_of bind) (param_of bind) g) (bound_instance bind c))
  where
    rotation : (b : Bool) (t k : ℕ) → length (if b then [] else ProgramRz t k ∷ []) ≤ 1
    rotation true t k = omega arith
    rotation false t k = omega arith

    gate_length : (f : Op) → length (instance_gate (qubit_of bind) (param_of bind) f) ≤ 1
    gate_length (H t) = omega arith
    gate_length (X t) = omega arith
    gate_length (Cx s t) = omega arith
    gate_length (Rz t e) = rotation (angle_value (param_of bind) e == 0) (qubit_of bind t) (angle_value (param_of bind) e)

-- ---- more qubits

-- a gate on fewer qubits is one on more
pub acts_on_more : (n m : ℕ) → n ≤ m → (g : Op) → ActsBelow n g → ActsBelow m g
acts_on_more n m more (H t) acts = omega arith
acts_on_more n m more (X t) acts = omega arith
acts_on_more n m more (Cx c t) acts = let first = acts.0 in let second = acts.1 in (omega arith, omega arith, acts.2)
acts_on_more n m more (Rz t e) acts = omega arith

-- both its qubits are below
within_gate : (n : ℕ) (g : Op) → ActsBelow n g → IsWithin n (as_gate g)
within_gate n (H t) acts = record { control = acts; target = acts }
within_gate n (X t) acts = record { control = acts; target = acts }
within_gate n (Cx c t) acts = record { control = acts.0; target = acts.1 }
within_gate n (Rz t e) acts = record { control = acts; target = acts }

within_circuit : (n : ℕ) (c : Circuit) → AllByRecursion (ActsBelow n) c → AllByRecursion (IsWithin n) (map as_gate c)
within_circuit n [] acts = tt
within_circuit n (g ∷ c) acts = (within_gate n g acts.0, within_circuit n c acts.1)

-- circuits that are equivalent on n qubits are so on more
pub on_more_qubits : (n m : ℕ) (a b : Circuit) → n ≤ m → AllByRecursion (ActsBelow n) a → AllByRecursion (ActsBelow n) b → Equivalent n a b → Equivalent m a b
unfolding scaled_ways paths
on_more_qubits n m a b more acts_a acts_b (u, same) =
    let alike = alike_of entry as_gate entry_ways is_h n u (halves b) (halves a) a b (rule_gates n a acts_a) (rule_gates n b acts_b) same in
    let moved = alike_placed (λ s. s) n (λ s t hs ht h. h) m u (halves b) (halves a) (map as_gate a) (map as_gate b) (within_circuit n a acts_a) (within_circuit n b acts_b) alike in
    let wider = λ (c : Circuit) (acts : AllByRecursion (ActsBelow n) c). rule_gates m c (each_weaker (ActsBelow n) (ActsBelow m) (acts_on_more n m more) c acts) in (
      u,
      same_of entry as_gate entry_ways is_h m u (halves b) (halves a) a b same.phase (wider a acts_a) (wider b acts_b)
          (alike_as m u (halves b) (halves a) (halves b) (halves a) (map (placed (λ s. s)) (map as_gate a)) (map (placed (λ s. s)) (map as_gate b)) (map as_gate a) (map as_gate b) refl refl (map-id (map as_gate a)) (map-id (map as_gate b)) moved),
    )
