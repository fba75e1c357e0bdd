-- Which programs are valid. The limits are this project's own; the names are those of OpenQASM 2.0.
use Rattle.std.specs.Prelude.{◌≡◌, ◌≢◌, ℕ, ◌<◌, ◌≤◌, IsTrue, List, [], ◌∷◌, ◌++◌, map, length, slice_index, Contains, codes, Option, Some, None}
use Rattle.std.specs.Char.{is_ascii_lowercase}
use Rattle.std.specs.List.{AllByRecursion, AllPairs}
use Rattle.qz_circ.specs.declared.program.Arg.{Arg}
use Rattle.qz_circ.specs.declared.program.Tail.{Tail}
use Rattle.qz_circ.specs.declared.program.Tail.TheVariants.{Barrier, Measure}
use Rattle.qz_circ.specs.Tokens.{is_in_word}
use Rattle.qz_circ.specs.ProgramLimits.{most_registers, most_bits, most_gates, longest_word}
use Rattle.qz_circ.specs.ProgramCircuits.{IsProgramCircuit}
use Rattle.qz_circ.specs.Registers.{RegisterParts, names_of, total_size}
use Rattle.qz_circ.specs.Programs.{ProgramParts}

-- ---- names

-- the words that don't name a register, although they are spelled like names
unfoldable pub reserved_words : List (List ℕ)
reserved_words =
    codes "pi" ∷ codes "include" ∷ codes "qreg" ∷ codes "creg" ∷ codes "gate" ∷ codes "opaque" ∷ codes "if" ∷
    codes "reset" ∷ codes "barrier" ∷ codes "measure" ∷ []

-- a lower-case letter, and then letters, digits and underscores
abbrev pub IsSpelledAsName : List ℕ → Type 0
IsSpelledAsName [] = ⊥
IsSpelledAsName (b ∷ rest) = IsTrue (is_ascii_lowercase b) × AllByRecursion (λ c. IsTrue (is_in_word c)) rest

-- what may name a register: at most 64 bytes, spelled as a name, and no reserved word
pub record IsRegisterName (name : List ℕ) : Type 0 where
  pub short : length name ≤ longest_word
  pub spelled : IsSpelledAsName name
  pub free : ¬ Contains reserved_words name

-- ---- barriers and measurements

-- how many places the register with this number has
abbrev pub size_at : List RegisterParts → ℕ → ℕ
size_at registers k = slice_index (map (λ r. r.size) registers) k

-- the place is below the size, where there is one
abbrev pub IsPlaceBelow : ℕ → Option ℕ → Type 0
IsPlaceBelow size None = Unit {0}
IsPlaceBelow size (Some place) = place < size

-- the operand names one of the registers, and if it is single a place of it
pub record IsOperand (registers : List RegisterParts) (a : Arg) : Type 0 where
  pub register : a.register < length registers
  pub place : IsPlaceBelow (size_at registers a.register) a.index

-- operands of registers of these sizes go together: both are whole and the sizes are equal, or both are single
abbrev pub AreAlike : ℕ → ℕ → Option ℕ → Option ℕ → Type 0
AreAlike m n None None = m ≡ n
AreAlike m n (Some i) (Some j) = Unit {0}
AreAlike m n None (Some j) = ⊥
AreAlike m n (Some i) None = ⊥

-- a measurement of qubits into as many bits
pub record IsMeasurement (qregs cregs : List RegisterParts) (from to : Arg) : Type 0 where
  pub source : IsOperand qregs from
  pub target : IsOperand cregs to
  pub alike : AreAlike (size_at qregs from.register) (size_at cregs to.register) from.index to.index

-- a barrier with at least one operand, of qubits, or a measurement of qubits into bits
abbrev pub IsStatement : List RegisterParts → List RegisterParts → Tail → Type 0
IsStatement qregs cregs (Barrier args) = (1 ≤ length args) × AllByRecursion (IsOperand qregs) args
IsStatement qregs cregs (Measure from to) = IsMeasurement qregs cregs from to

-- ---- programs

-- the registers of both kinds
abbrev pub registers_of : ProgramParts → List RegisterParts
registers_of p = p.qregs ++ p.cregs

-- Names that may be given, no two equal; at most 64 registers of both kinds together, each of size at least 1, with at most
-- 4,096 bits in all; at most 20,000 gates on the qubits of the program, which are at most 64; and a tail over the registers.
pub record Valid (p : ProgramParts) : Type 0 where
  pub names : AllByRecursion IsRegisterName (names_of (registers_of p))
  pub different : AllPairs (λ a b. a ≢ b) (names_of (registers_of p))
  pub few_registers : length (registers_of p) ≤ most_registers
  pub sizes : AllByRecursion (λ r. 1 ≤ r.size) (registers_of p)
  pub few_bits : total_size p.cregs ≤ most_bits
  pub gates : IsProgramCircuit (total_size p.qregs) p.gates
  pub few_gates : length p.gates ≤ most_gates
  pub tail : AllByRecursion (IsStatement p.qregs p.cregs) p.tail
