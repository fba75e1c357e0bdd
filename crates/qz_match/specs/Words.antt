-- Words: how a walk over a left side goes on from gate to gate, and the positions to which words lead in a program.
use Rattle.std.specs.Prelude.{◌≡◌, ℕ, zero, suc, ◌<◌, ◌≤◌, ◌&&◌, Bool, true, false, if◌then◌else◌, List, [], ◌∷◌, length, map, nat_lt, Option, Some, None, slice_index_or}
use Rattle.std.specs.List.{slice_get}
use Rattle.qz_circ.specs.declared.circuit.Op.TheVariants.{H}
use Rattle.qz_circ.specs.declared.circuit.Inst.{Inst}
use Rattle.qz_circ.specs.Circuit.{Circuit}
use Rattle.qz_circ.specs.Places.{and_then}
use Rattle.qz_circ.specs.ProgramCircuits.{ProgramCircuit}
use Rattle.qz_match.specs.declared.neighbours.Link.{Link}
use Rattle.qz_match.specs.declared.walk.Step.{Step}
use Rattle.qz_match.specs.declared.words.Way.{Way}
use Rattle.qz_match.specs.declared.words.Way.TheVariants.{Here, Before, Behind}
use Rattle.qz_match.specs.declared.words.Word.{Word}
use Rattle.qz_match.specs.Neighbours.{gate_at, beside}
use Rattle.qz_match.specs.Starts.{is_alike, Matches}
use Rattle.qz_match.specs.Walks.{rule_gate_at}

-- ---- the words of a left side

-- the word with this number
abbrev pub word_at : List Word → ℕ → Word
word_at words k = slice_index_or words k (record { way = Here; from = 0; second = false; gate = H 0 })

-- the step with this number
abbrev pub walk_step : List Step → ℕ → Step
walk_step steps k = slice_index_or steps k (record { from = 0; operand = 0; forward = false; to = 0 })

-- the gates of a left side in the order in which a walk reaches them
abbrev pub order_of : List Step → List ℕ
order_of steps = 0 ∷ map (λ step. step.to) steps

-- the operand whose qubit a word goes along
abbrev pub operand_of : Word → ℕ
operand_of w = if w.second then 1 else 0

-- the word leads to the first gate
pub record IsFirstWord (left : Circuit) (w : Word) : Type 0 where
  pub way : w.way ≡ Here
  pub alike : (g : Inst) → is_alike w.gate g ≡ is_alike (rule_gate_at left 0) g

-- the word leads as the step with number k does, which is preceded by k other ones
pub record IsWordOf (left : Circuit) (steps : List Step) (k : ℕ) (w : Word) : Type 0 where
  pub early : w.from ≤ k
  pub from : slice_index_or (order_of steps) w.from 0 ≡ (walk_step steps k).from
  pub way : w.way ≡ (if (walk_step steps k).forward then Behind else Before)
  pub operand : operand_of w ≡ (walk_step steps k).operand
  pub alike : (g : Inst) → is_alike w.gate g ≡ is_alike (rule_gate_at left (walk_step steps k).to) g

-- the words are those of this walk over the left side
pub record AreWordsOf (left : Circuit) (steps : List Step) (words : List Word) : Type 0 where
  pub size : length words ≡ suc (length steps)
  pub first : IsFirstWord left (word_at words 0)
  pub each : (k : ℕ) → k < length steps → IsWordOf left steps k (word_at words (suc k))

-- ---- where words lead

-- the position with this number, of k that are found
abbrev pub start_at : List ℕ → ℕ → ℕ → Option ℕ
start_at found k from = if nat_lt from k then Some (slice_index_or found from 0) else None

-- the position to which a way leads from another one; p is the first of all
abbrev pub way_along : List Link → ℕ → Option ℕ → ℕ → Way → Option ℕ
way_along links p start operand Here = Some p
way_along links p start operand Before = and_then start (λ q. beside links q operand false)
way_along links p start operand Behind = and_then start (λ q. beside links q operand true)

-- the position to which the way of a word leads, where k are found
abbrev pub way_to : List Link → ℕ → List ℕ → ℕ → Word → Option ℕ
way_to links p found k w = way_along links p (start_at found k w.from) (operand_of w) w.way

-- the position, if it has a gate like that of the word
abbrev pub passed : ProgramCircuit → Word → ℕ → Option ℕ
passed c w x = if nat_lt x (length c) && is_alike w.gate (gate_at c x) then Some x else None

-- the position to which a word leads, where there is a gate like its own
abbrev pub step_to : ProgramCircuit → List Link → ℕ → List ℕ → ℕ → Word → Option ℕ
step_to c links p found k w = and_then (way_to links p found k w) (passed c w)

-- the first k words lead to the first k of these positions
abbrev pub Leads : ProgramCircuit → List Link → ℕ → List Word → ℕ → List ℕ → Type 0
Leads c links p words k found = (j : ℕ) → j < k → step_to c links p found j (word_at words j) ≡ Some (slice_index_or found j 0)

-- some word leads nowhere from where those before it lead
pub record LeadsNowhere (c : ProgramCircuit) (links : List Link) (p : ℕ) (words : List Word) : Type 0 where
  pub found : List ℕ
  pub at : ℕ
  pub within : at < length words
  pub leads : Leads c links p words at found
  pub stops : step_to c links p found at (word_at words at) ≡ None

-- Wherever the left side stands with its first gate at p, its gates stand at these positions, in the order of the walk.
abbrev pub AreReached : Circuit → List Step → ProgramCircuit → ℕ → List ℕ → Type 0
AreReached left steps c p found =
    (ps : List ℕ) → Matches left c p ps → (k : ℕ) → k < suc (length steps) → slice_index_or found k 0 ≡ slice_index_or (p ∷ ps) (slice_index_or (order_of steps) k 0) 0
