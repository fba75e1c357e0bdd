-- What the children of circuits keep.
use Rattle.std.proofs.Common.{ℕ, ◌≤◌, inl, inr, List, [], ◌∷◌, subst}
use Rattle.std.specs.List.{AllByRecursion}
use Rattle.qz_circ.specs.Circuit.{Circuit, IsOn}
use Rattle.qz_circ.specs.ProgramCircuits.{ProgramCircuit, IsProgramGate, IsProgramCircuit, EquivalentProgramCircuits}
use Rattle.qz_circ.specs.Replacement.{children}
use Rattle.qz_queue.proofs.DifferentOnes.{Has}
use Rattle.qz_rewrite.specs.SoundClasses.{AreSoundClasses}
use Rattle.qz_rewrite.proofs.Children as steps
use Rattle.qz_search.specs.Offers.{KeepsGates}
use Rattle.qz_search.specs.Tables.{AreAlike}
use Rattle.qz_search.proofs.Members.{contains_has}

-- what holds of all holds of each
each_has : {A : Type 0} (P : A → Type 0) (xs : List A) (k : A) → AllByRecursion P xs → Has xs k → P k
each_has P [] k each h = absurd h
each_has P (x ∷ xs) k each (inl e) = subst P e each.0
each_has P (x ∷ xs) k each (inr h) = each_has P xs k each.1 h

-- children of circuits with program gates have program gates
pub children_keep_gates : (q : ℕ) (classes : List (List Circuit)) → AllByRecursion (AllByRecursion (IsOn 3 3)) classes → (y z : ProgramCircuit) → AllByRecursion (IsProgramGate q) y → Has (children classes y) z → AllByRecursion (IsProgramGate q) z
children_keep_gates q classes on y z gates h =
    each_has (AllByRecursion (IsProgramGate q)) (children classes y) z (steps.children_gates q classes y on gates) h

-- children of a circuit on some qubits are on them, and it is equivalent to them
pub children_equivalent : (n : ℕ) (classes : List (List Circuit)) → n ≤ 3 → AreSoundClasses n classes → (q : ℕ) (y z : ProgramCircuit) → IsProgramCircuit q y → Has (children classes y) z → IsProgramCircuit q z × EquivalentProgramCircuits q y z
children_equivalent n classes few sound q y z lawful h = (
  record { few = lawful.few; gates = children_keep_gates q classes (steps.sound_on n classes few sound) y z lawful.gates h },
  each_has (EquivalentProgramCircuits q y) (children classes y) z (steps.children_equivalent q n classes y few sound lawful.gates) h,
)

-- so the children by a table of sound classes have program gates
pub table_keeps_gates : (n : ℕ) (classes : List (List Circuit)) → n ≤ 3 → AreSoundClasses n classes → (table : ProgramCircuit → List ProgramCircuit) → AreAlike table (children classes) → KeepsGates table
table_keeps_gates n classes few sound table alike y z gates h =
    children_keep_gates 64 classes (steps.sound_on n classes few sound) y z gates (contains_has (children classes y) z ((alike y gates z).0 h))
