-- A search under way, and what it finds.
use Rattle.std.specs.Prelude.{◌≡◌, ℕ, ◌+◌, ◌≤◌, false, List, length}
use Rattle.std.specs.List.{AllByRecursion, filter, flat_map}
use Rattle.std.specs.Ordering.{is_lt}
use Rattle.qz_circ.specs.Circuit.{Circuit}
use Rattle.qz_circ.specs.ProgramCircuits.{ProgramCircuit, IsProgramGate, EquivalentProgramCircuits, cost, program_cmp}
use Rattle.qz_circ.specs.Queue.{QueueList, IsQueue}
use Rattle.qz_circ.specs.Replacement.{children}
use Rattle.qz_circ.specs.Search.{PlanNumbers, IsPlan, start, earliest, is_short, after, best_found, IsComplete, IsReached, most_taken}
use Rattle.qz_rewrite.specs.SoundClasses.{AreSoundClasses}
use Rattle.qz_search.specs.Tables.{TableParts, children_by_table}
use Rattle.qz_search.specs.Offers.{is_new, offered_to, AreFit, IsAt, KeepsGates}
use Rattle.qz_circ.specs.ProgramLimits.{most_qubits, most_gates}

-- the table of the rules, the plan, how many rounds are left, the circuits that were taken, what a new one may cost in
-- this round, the queue and the best circuit so far
pub record SearchParts : Type 0 where
  pub rules : TableParts
  pub plan : PlanNumbers
  pub left : ℕ
  pub seen : List ProgramCircuit
  pub most : ℕ
  pub queue : QueueList
  pub best : ProgramCircuit

-- the children that a round offers of the circuits that it took: those that are new
abbrev pub new_children : SearchParts → List ProgramCircuit → List ProgramCircuit
new_children s batch = filter (is_new s.queue.weights s.seen s.most) (flat_map (children_by_table s.rules) batch)

-- the search once these circuits were offered, with the best one of all so far
abbrev pub advanced : SearchParts → List ProgramCircuit → SearchParts
advanced s cs = record s { queue = offered_to s.queue cs; best = earliest s.queue.weights s.best (filter is_short (offered_to s.queue cs).list) }

module _ (classes : List (List Circuit)) (c : ProgramCircuit) where
  -- the search is one from this circuit by sound classes of rules, in whichever order its children come
  pub record IsSearch (rules : TableParts) (plan : PlanNumbers) : Type 0 where
    pub sound : (n : ℕ) × (n ≤ 3) × AreSoundClasses n classes
    pub keeps : KeepsGates (children_by_table rules)
    pub lawful : IsPlan plan
    pub gates : AllByRecursion (IsProgramGate most_qubits) c
    pub few : length c ≤ most_gates
    pub same : best_found (children_by_table rules) plan c ≡ best_found (children classes) plan c

  -- it stands where the definition is after as many rounds as it has had
  pub record IsBetweenRounds (s : SearchParts) : Type 0 where
    pub search : IsSearch s.rules s.plan
    pub short : length s.best ≤ most_gates
    pub rounds : ℕ
    pub counted : rounds + s.left ≡ s.plan.rounds
    pub at : IsAt s.plan (after (children_by_table s.rules) s.plan rounds (start c)) s.seen s.queue s.best

  -- it has taken these circuits, and is a round further once their new children were offered
  pub record IsInRound (batch : List ProgramCircuit) (s : SearchParts) : Type 0 where
    pub fit : AreFit batch
    pub few : length batch ≤ most_taken
    pub lawful : IsQueue s.queue
    pub further : IsBetweenRounds (advanced s (new_children s batch))

  -- the search by this plan finds this circuit
  pub record IsFound (plan : PlanNumbers) (d : ProgramCircuit) : Type 0 where
    pub best : d ≡ best_found (children classes) plan c
    pub cheap : cost plan.weights d ≤ cost plan.weights c
    pub short : length d ≤ most_gates
    pub lawful : (q : ℕ) → q ≤ most_qubits → AllByRecursion (IsProgramGate q) c → AllByRecursion (IsProgramGate q) d
    pub equivalent : (q : ℕ) → q ≤ most_qubits → AllByRecursion (IsProgramGate q) c → EquivalentProgramCircuits q c d
    pub complete : IsComplete (children classes) plan c → (x : ProgramCircuit) → length x ≤ most_gates → IsReached (children classes) plan.weights (cost plan.weights d + plan.slack) c x → is_lt (program_cmp plan.weights x d) ≡ false
