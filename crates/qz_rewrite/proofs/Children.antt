-- All programs that come of one step: made of gates on the same qubits, and equivalent to the program where the classes are sound.
use Rattle.std.proofs.Common.{◌≡◌, ℕ, zero, suc, ◌+◌, ◌<◌, ◌≤◌, ◌==◌, true, not, List, [], ◌∷◌, filter, length, arith}
use Rattle.std.specs.List.{AllByRecursion, flat_map}
use Rattle.qz_circ.specs.Circuit.{Circuit, ActsBelow, HasBelow, IsOn, below}
use Rattle.qz_circ.specs.Equivalence.{Equivalent}
use Rattle.qz_circ.specs.Places.{places}
use Rattle.qz_circ.specs.ProgramCircuits.{ProgramCircuit, IsProgramGate, EquivalentProgramCircuits}
use Rattle.qz_circ.specs.Replacement.{replaced, children_by, numbered, children_in, children}
use Rattle.qz_circ.proofs.RisingLists.{each_weaker, each-map, each-flat_map, each-filter, each-range}
use Rattle.qz_paths.proofs.Equivalences.{symmetric, transitive}
use Rattle.qz_subst.proofs.EquivalentInstances.{acts_on_more, on_more_qubits}
use Rattle.qz_rewrite.specs.SoundClasses.{IsSoundClass, AreSoundClasses}
use Rattle.qz_rewrite.proofs.FoundPlaces.{IsFound, places_found, rewritten_gates, rewritten_equivalent}

-- ---- of all pairs of members

-- what holds of all members holds of each
each_member : (P : Circuit → Type 0) (members : List Circuit) (i : ℕ) → AllByRecursion P members → i < length members → P (numbered members i)
each_member P [] i each less = absurd (omega arith)
each_member P (a ∷ members) zero each less = each.0
each_member P (a ∷ members) (suc i) each less = each_member P members i each.1 (omega arith)

module _ (Q : ProgramCircuit → Type 0) (c : ProgramCircuit) where
  -- what holds of the programs by each two members holds of all by the class
  each_in : (members : List Circuit) → ((i j : ℕ) → i < length members → j < length members → AllByRecursion Q (children_by (numbered members i) (numbered members j) c)) → AllByRecursion Q (children_in members c)
  unfolding children_in
  each_in members all =
      let n = length members in
      each-flat_map Q (λ i. flat_map (λ j. children_by (numbered members i) (numbered members j) c) (filter (λ j. not (j == i)) (below n))) (below n)
      (each_weaker (λ i. (0 ≤ i) × (i < 0 + n)) (λ i. AllByRecursion Q (flat_map (λ j. children_by (numbered members i) (numbered members j) c) (filter (λ j. not (j == i)) (below n))))
      (λ i within. let less = within.1 in
      each-flat_map Q (λ j. children_by (numbered members i) (numbered members j) c) (filter (λ j. not (j == i)) (below n))
      (each_weaker (λ j. ((0 ≤ j) × (j < 0 + n)) × (not (j == i) ≡ true)) (λ j. AllByRecursion Q (children_by (numbered members i) (numbered members j) c))
      (λ j also. let more = also.0.1 in all i j (omega arith) (omega arith))
      (filter (λ j. not (j == i)) (below n)) (each-filter (λ j. (0 ≤ j) × (j < 0 + n)) (λ j. not (j == i)) (below n) (each-range 0 n))))
      (below n) (each-range 0 n))

  -- and of all by each class
  each_of : (classes : List (List Circuit)) → AllByRecursion (λ members. (i j : ℕ) → i < length members → j < length members → AllByRecursion Q (children_by (numbered members i) (numbered members j) c)) classes → AllByRecursion Q (children classes c)
  unfolding children
  each_of classes all =
      each-flat_map Q (λ members. children_in members c) classes
      (each_weaker (λ members. (i j : ℕ) → i < length members → j < length members → AllByRecursion Q (children_by (numbered members i) (numbered members j) c)) (λ members. AllByRecursion Q (children_in members c)) each_in classes all)

-- ---- one step

-- the programs by two circuits are made of gates on the same qubits
step_gates : (q : ℕ) (left right : Circuit) (c : ProgramCircuit) → IsOn 3 3 left → IsOn 3 3 right → AllByRecursion (IsProgramGate q) c → AllByRecursion (AllByRecursion (IsProgramGate q)) (children_by left right c)
unfolding children_by
step_gates q left right c on_left on_right are =
    each-map (AllByRecursion (IsProgramGate q)) (replaced c right) (places left right c)
    (each_weaker (IsFound left right c) (λ place. AllByRecursion (IsProgramGate q) (replaced c right place)) (λ place found. rewritten_gates q left right c place on_left on_right are found) (places left right c) (places_found left right c))

-- and equivalent to the program, where the two are equivalent
step_equivalent : (q : ℕ) (left right : Circuit) (c : ProgramCircuit) → IsOn 3 3 left → IsOn 3 3 right → AllByRecursion (IsProgramGate q) c → Equivalent 3 left right → AllByRecursion (EquivalentProgramCircuits q c) (children_by left right c)
unfolding children_by
step_equivalent q left right c on_left on_right are equal =
    each-map (EquivalentProgramCircuits q c) (replaced c right) (places left right c)
    (each_weaker (IsFound left right c) (λ place. EquivalentProgramCircuits q c (replaced c right place)) (λ place found. rewritten_equivalent q left right c place on_left on_right are found equal) (places left right c) (places_found left right c))

-- ---- all steps

-- all programs of one step are made of gates on the same qubits
pub children_gates : (q : ℕ) (classes : List (List Circuit)) (c : ProgramCircuit) → AllByRecursion (AllByRecursion (IsOn 3 3)) classes → AllByRecursion (IsProgramGate q) c → AllByRecursion (AllByRecursion (IsProgramGate q)) (children classes c)
children_gates q classes c on are =
    each_of (AllByRecursion (IsProgramGate q)) c classes
    (each_weaker (AllByRecursion (IsOn 3 3)) (λ members. (i j : ℕ) → i < length members → j < length members → AllByRecursion (AllByRecursion (IsProgramGate q)) (children_by (numbered members i) (numbered members j) c))
    (λ members on_all i j less also. step_gates q (numbered members i) (numbered members j) c (each_member (IsOn 3 3) members i on_all less) (each_member (IsOn 3 3) members j on_all also) are) classes on)

-- a circuit on fewer qubits is one on more
on_more : (n : ℕ) → n ≤ 3 → (a : Circuit) → IsOn n 3 a → IsOn 3 3 a
on_more n few a on = each_weaker (λ g. ActsBelow n g × HasBelow 3 g) (λ g. ActsBelow 3 g × HasBelow 3 g) (λ g h. (acts_on_more n 3 few g h.0, h.1)) a on

-- it acts on them
acts : (n : ℕ) (a : Circuit) → IsOn n 3 a → AllByRecursion (ActsBelow n) a
acts n a on = each_weaker (λ g. ActsBelow n g × HasBelow 3 g) (ActsBelow n) (λ g h. h.0) a on

-- two members of a sound class are equivalent on three qubits
members_equivalent : (n : ℕ) → n ≤ 3 → (members : List Circuit) → IsSoundClass n members → (i j : ℕ) → i < length members → j < length members → Equivalent 3 (numbered members i) (numbered members j)
members_equivalent n few members sound i j less also =
    let first = each_member (λ a. IsOn n 3 a × Equivalent n (numbered members 0) a) members i sound less in
    let second = each_member (λ a. IsOn n 3 a × Equivalent n (numbered members 0) a) members j sound also in
    on_more_qubits n 3 (numbered members i) (numbered members j) few (acts n (numbered members i) first.0) (acts n (numbered members j) second.0)
    (transitive n (numbered members i) (numbered members 0) (numbered members j) (symmetric n (numbered members 0) (numbered members i) first.1) second.1)

-- all programs of one step with sound classes are equivalent to the program
pub children_equivalent : (q n : ℕ) (classes : List (List Circuit)) (c : ProgramCircuit) → n ≤ 3 → AreSoundClasses n classes → AllByRecursion (IsProgramGate q) c → AllByRecursion (EquivalentProgramCircuits q c) (children classes c)
children_equivalent q n classes c few sound are =
    each_of (EquivalentProgramCircuits q c) c classes
    (each_weaker (IsSoundClass n) (λ members. (i j : ℕ) → i < length members → j < length members → AllByRecursion (EquivalentProgramCircuits q c) (children_by (numbered members i) (numbered members j) c))
    (λ members sound_class i j less also.
    step_equivalent q (numbered members i) (numbered members j) c
    (on_more n few (numbered members i) (each_member (λ a. IsOn n 3 a × Equivalent n (numbered members 0) a) members i sound_class less).0)
    (on_more n few (numbered members j) (each_member (λ a. IsOn n 3 a × Equivalent n (numbered members 0) a) members j sound_class also).0)
    are (members_equivalent n few members sound_class i j less also)) classes sound)

-- and sound classes are of circuits on three qubits
pub sound_on : (n : ℕ) (classes : List (List Circuit)) → n ≤ 3 → AreSoundClasses n classes → AllByRecursion (AllByRecursion (IsOn 3 3)) classes
sound_on n classes few sound =
    each_weaker (IsSoundClass n) (AllByRecursion (IsOn 3 3)) (λ members sound_class. each_weaker (λ a. IsOn n 3 a × Equivalent n (numbered members 0) a) (IsOn 3 3) (λ a h. on_more n few a h.0) members sound_class) classes sound
