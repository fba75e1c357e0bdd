-- Gates that are next to each other on a qubit, and the links between them.
use Rattle.std.specs.Prelude.{◌≡◌, ℕ, ◌<◌, ◌≤◌, Bool, true, false, if◌then◌else◌, List, [], length, Option, Some, slice_index_or}
use Rattle.std.specs.List.{slice_get}
use Rattle.qz_circ.specs.declared.circuit.Inst.{Inst}
use Rattle.qz_circ.specs.declared.circuit.Inst.TheVariants.{H}
use Rattle.qz_circ.specs.Gathering.{qubits_of, is_on}
use Rattle.qz_circ.specs.Instances.{slot}
use Rattle.qz_circ.specs.ProgramCircuits.{ProgramCircuit}
use Rattle.qz_match.specs.declared.kinds.Kinds.{Kinds}
use Rattle.qz_match.specs.declared.neighbours.Link.{Link}
use Rattle.qz_match.specs.Kinds.{AreShown}

-- Both positions, the greater below n, pass the test, and none between them does.
pub record AreNeighbours (passes : ℕ → Bool) (n p q : ℕ) : Type 0 where
  pub rising : p < q
  pub in_range : q < n
  pub first : passes p ≡ true
  pub second : passes q ≡ true
  pub clear : (x : ℕ) → p < x → x < q → passes x ≡ false

-- the gate at a position
abbrev pub gate_at : ProgramCircuit → ℕ → Inst
gate_at c x = slice_index_or c x (H 0)

-- the gate at this position is on the qubit
abbrev pub on_at : ProgramCircuit → ℕ → ℕ → Bool
on_at c w x = is_on w (gate_at c x)

-- the links of the gate at a position, to gates before and behind it, by the numbers of its operands
abbrev pub link_at : List Link → ℕ → Link
link_at links p = slice_index_or links p (record { previous = []; next = [] })

-- the position that a link leads to
abbrev pub beside : List Link → ℕ → ℕ → Bool → Option ℕ
beside links p o forward = slot (if forward then (link_at links p).next else (link_at links p).previous) o

-- a link leads from each gate to the nearest one before it on each of its qubits, for gates up to this number
abbrev pub FindsPrevious : ProgramCircuit → ℕ → List Link → Type 0
FindsPrevious c n links =
    (p q w o : ℕ) → q < n → slice_get (qubits_of (gate_at c q)) o ≡ Some w → AreNeighbours (on_at c w) (length c) p q → beside links q o false ≡ Some p

-- and to the nearest one behind it, for gates from this number on
abbrev pub FindsNext : ProgramCircuit → ℕ → List Link → Type 0
FindsNext c n links =
    (p q w o : ℕ) → n ≤ p → slice_get (qubits_of (gate_at c p)) o ≡ Some w → AreNeighbours (on_at c w) (length c) p q → beside links p o true ≡ Some q

-- all links lead from gate to gate of this circuit
pub record AreLinksOf (c : ProgramCircuit) (links : List Link) : Type 0 where
  pub previous : FindsPrevious c (length c) links
  pub next : FindsNext c 0 links

-- the links between gates and the kinds of gates
pub record LinksAndKinds : Type 0 where
  pub links : List Link
  pub kinds : Kinds

-- they are those of this circuit
pub record AreNeighboursOf (c : ProgramCircuit) (n : LinksAndKinds) : Type 0 where
  pub links : AreLinksOf c n.links
  pub kinds : AreShown c n.kinds

-- each slot has the last position before i of a gate on its qubit, if there is one
abbrev pub HasLast : ProgramCircuit → ℕ → List (Option ℕ) → Type 0
HasLast c i slots = (w j : ℕ) → j < i → on_at c w j ≡ true → ((x : ℕ) → j < x → x < i → on_at c w x ≡ false) → slot slots w ≡ Some j

-- each slot has the first position from i on of a gate on its qubit, if there is one
abbrev pub HasFirst : ProgramCircuit → ℕ → List (Option ℕ) → Type 0
HasFirst c i slots = (w j : ℕ) → i ≤ j → j < length c → on_at c w j ≡ true → ((x : ℕ) → i ≤ x → x < j → on_at c w x ≡ false) → slot slots w ≡ Some j
