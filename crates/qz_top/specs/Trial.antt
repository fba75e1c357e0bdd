-- The command that makes a circuit from a number, and says how short the search makes it.
use Rattle.std.specs.Prelude.{◌≡◌, ℕ, ◌+◌, ◌-◌, ◌*◌, ◌%◌, ◌==◌, List, [], ◌++◌, length, map, codes, if◌then◌else◌}
use Rattle.std.specs.Fmt.{decimal}
use Rattle.qz_circ.specs.declared.circuit.Inst.{Inst}
use Rattle.qz_circ.specs.declared.circuit.Inst.TheVariants.{H, X, Cx, Rz}
use Rattle.qz_circ.specs.Circuit.{Circuit, Limits, below}
use Rattle.qz_circ.specs.Classes.{IsClassList}
use Rattle.qz_circ.specs.Joined.{circuits_of_ranks}
use Rattle.qz_circ.specs.Lines.{line}
use Rattle.qz_circ.specs.ProgramCircuits.{ProgramCircuit, ones}
use Rattle.qz_circ.specs.Replacement.{children}
use Rattle.qz_circ.specs.Search.{PlanNumbers, best_found}
use Rattle.qz_top.specs.declared.status.Status.TheVariants.{Ok}
use Rattle.qz_top.specs.Answer.{Answer}
use Rattle.qz_random.specs.RandomWords.{word}

-- ---- the circuit

-- NOT of another qubit where this one is 1: of q qubits, the one that is so many past the next, counted round; on one qubit NOT
abbrev pub controlled : ℕ → ℕ → ℕ → Inst
controlled q a past = if q == 1 then X a else Cx a ((a + 1 + past % (q - 1)) % q)

-- the gate of a kind on this qubit of q: 0 is H, 1 X, 2 a controlled NOT, and any other a turn by one to seven eighths of a full circle
abbrev pub gate_of_kind : ℕ → ℕ → ℕ → ℕ → Inst
gate_of_kind q kind a choice =
    if kind == 0 then H a
    else if kind == 1 then X a
    else if kind == 2 then controlled q a choice
    else Rz a (64 * (1 + choice % 7))

-- the gate on q qubits that three words choose: its kind, its first qubit, and the other qubit or the angle
abbrev pub chosen_gate : ℕ → ℕ → ℕ → ℕ → Inst
chosen_gate q v1 v2 v3 = gate_of_kind q (v1 % 4) (v2 % q) v3

-- the gate with number k of the circuit of a seed: each gate takes the next three words
unfoldable pub trial_gate : ℕ → ℕ → ℕ → Inst
trial_gate seed q k = chosen_gate q (word seed (3 * k)) (word seed (3 * k + 1)) (word seed (3 * k + 2))

-- the circuit of g gates on q qubits
abbrev pub trial_circuit : ℕ → ℕ → ℕ → ProgramCircuit
trial_circuit seed q g = map (trial_gate seed q) (below g)

-- ---- the search

-- the rules are those of circuits of at most two gates on two qubits, with one parameter
abbrev pub trial_limits : Limits
trial_limits = record { n = 2; q = 2; m = 1; grain = 4 }

-- four rounds that take two circuits each, a queue of 20, and no slack; each gate weighs 1
abbrev pub trial_plan : PlanNumbers
trial_plan = record { rounds = 4; batch = 2; cap = 20; slack = 0; weights = ones }

-- the circuit that the search with these rules finds
abbrev pub trial_found : List (List Circuit) → ProgramCircuit → ProgramCircuit
trial_found classes c = best_found (children classes) trial_plan c

-- the circuits of a class list of the limits
pub record AreTrialClasses (classes : List (List Circuit)) : Type 0 where
  pub ranks : List (List ℕ)
  pub class_list : IsClassList trial_limits ranks
  pub classes_are : classes ≡ circuits_of_ranks trial_limits ranks

-- the second circuit is what the search finds from the first, by the circuits of a class list
pub record IsTrialFound (before after : ProgramCircuit) : Type 0 where
  pub classes : List (List Circuit)
  pub are_classes : AreTrialClasses classes
  pub found : after ≡ trial_found classes before

-- ---- the answer

-- three lines: the numbers of the command, how many gates there are before the search, and how many after it
unfoldable pub summary : ℕ → ℕ → ℕ → ProgramCircuit → ProgramCircuit → List ℕ
summary seed q g before after =
    line (codes "trial " ++ decimal seed ++ codes " " ++ decimal q ++ codes " " ++ decimal g) ++
    line (codes "before " ++ decimal (length before)) ++
    line (codes "after " ++ decimal (length after))

-- the text is the summary of the circuit of a seed and what the search finds from it
pub record IsTrialText (seed q g : ℕ) (text : List ℕ) : Type 0 where
  pub after : ProgramCircuit
  pub found : IsTrialFound (trial_circuit seed q g) after
  pub text_is : text ≡ summary seed q g (trial_circuit seed q g) after

-- an answer to a trial: done, with such a text
pub record Tries (seed q g : ℕ) (answer : Answer) : Type 0 where
  pub done : answer.status ≡ Ok
  pub out : IsTrialText seed q g answer.out
  pub err : answer.err ≡ []
