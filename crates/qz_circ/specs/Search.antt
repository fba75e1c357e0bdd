-- The search for a cheaper circuit, by rounds, over the children of a circuit; and what a complete search reaches.
use Rattle.std.specs.Prelude.{◌≡◌, ℕ, zero, suc, ◌+◌, ◌*◌, ◌≤◌, nat_le, Bool, not, ◌&&◌, cond, List, [], ◌∷◌, ◌++◌, length, take, drop, Contains}
use Rattle.std.specs.List.{filter, flat_map, list_any}
use Rattle.std.specs.Ordering.{is_lt, eq_by_cmp}
use Rattle.qz_circ.specs.ProgramCircuits.{ProgramCircuit, AreWeights, ones, cost, program_cmp}
use Rattle.qz_circ.specs.ProgramLimits.{most_gates}
use Rattle.qz_circ.specs.Queue.{different, firsts}

-- how many rounds there are, how many circuits each takes, how many the queue holds at most, how much more than the best
-- circuit a child may cost, and the weights of the gates
pub record PlanNumbers : Type 0 where
  pub rounds : ℕ
  pub batch : ℕ
  pub cap : ℕ
  pub slack : ℕ
  pub weights : List ℕ

-- the most circuits that a round takes
abbrev pub most_taken : ℕ
most_taken = 64

-- the most circuits that the queue holds
abbrev pub most_held : ℕ
most_held = 500

-- the most circuits that all rounds together take
abbrev pub most_taken_in_all : ℕ
most_taken_in_all = 4096

-- the most that a child may cost more than the best circuit
abbrev pub most_slack : ℕ
most_slack = 4

-- the most gates that a child may have
abbrev pub most_grown : ℕ
most_grown = 20004

-- the numbers are within the limits
pub record IsPlan (p : PlanNumbers) : Type 0 where
  pub some_taken : 1 ≤ p.batch
  pub few_taken : p.batch ≤ most_taken
  pub some_held : 1 ≤ p.cap
  pub few_held : p.cap ≤ most_held
  pub few_rounds : p.rounds * p.batch ≤ most_taken_in_all
  pub near : p.slack ≤ most_slack
  pub weighed : AreWeights p.weights

-- the circuits that were taken, those that wait in the queue, and the best one so far
pub record SearchState : Type 0 where
  pub seen : List ProgramCircuit
  pub queue : List ProgramCircuit
  pub best : ProgramCircuit

-- the circuit is one of these
abbrev pub is_among : List ProgramCircuit → ProgramCircuit → Bool
is_among cs c = list_any (eq_by_cmp (program_cmp ones) c) cs

-- the earliest of a circuit and these
abbrev pub earliest : List ℕ → ProgramCircuit → List ProgramCircuit → ProgramCircuit
earliest ws best [] = best
earliest ws best (c ∷ cs) = earliest ws (cond (is_lt (program_cmp ws c best)) c best) cs

-- a child is offered where it wasn't taken, costs at most the slack more than the best circuit, and has at most 20,004 gates
abbrev pub is_offered : PlanNumbers → List ProgramCircuit → ProgramCircuit → ProgramCircuit → Bool
is_offered plan seen best c =
    not (is_among seen c) && (nat_le (cost plan.weights c) (cost plan.weights best + plan.slack) && nat_le (length c) most_grown)

-- it has as few gates as a program
abbrev pub is_short : ProgramCircuit → Bool
is_short c = nat_le (length c) most_gates

-- at the start nothing was taken, and the circuit itself waits and is the best one
abbrev pub start : ProgramCircuit → SearchState
start c = record { seen = []; queue = c ∷ []; best = c }

module _ (children : ProgramCircuit → List ProgramCircuit) (plan : PlanNumbers) where
  -- the circuits that a round takes: the first of the queue
  abbrev pub taken : SearchState → List ProgramCircuit
  taken s = take plan.batch s.queue

  -- the taken ones after a round
  abbrev pub seen_next : SearchState → List ProgramCircuit
  seen_next s = s.seen ++ taken s

  -- the children that a round offers, of the circuits that it takes
  unfoldable pub offered : SearchState → List ProgramCircuit
  offered s = filter (is_offered plan (seen_next s) s.best) (flat_map children (taken s))

  -- what a round chooses the new queue from: the rest of the queue and the offered children
  unfoldable pub choice : SearchState → List ProgramCircuit
  choice s = drop plan.batch s.queue ++ offered s

  -- the new queue: the first of the different ones
  abbrev pub queue_next : SearchState → List ProgramCircuit
  queue_next s = firsts plan.weights plan.cap (choice s)

  -- one round; of the new queue those circuits may be the best that have at most 20,000 gates
  abbrev pub round : SearchState → SearchState
  round s = record { seen = seen_next s; queue = queue_next s; best = earliest plan.weights s.best (filter is_short (queue_next s)) }

  -- so many rounds; one that finds the queue empty changes nothing, so that the search may end there
  abbrev pub after : ℕ → SearchState → SearchState
  after zero s = s
  after (suc n) s = after n (round s)

  -- the circuit that the search gives: the best one after all rounds
  unfoldable pub best_found : ProgramCircuit → ProgramCircuit
  best_found c = (after plan.rounds (start c)).best

  -- in so many rounds, each has at most as many different circuits to choose from as the queue holds
  abbrev pub DropsNothing : ℕ → SearchState → Type 0
  DropsNothing zero s = Unit {0}
  DropsNothing (suc n) s = (length (different (program_cmp plan.weights) (choice s)) ≤ plan.cap) × DropsNothing n (round s)

  -- the search is complete: its queue is empty at the end, and no round had to drop a circuit
  pub record IsComplete (c : ProgramCircuit) : Type 0 where
    pub ends : (after plan.rounds (start c)).queue ≡ []
    pub drops_nothing : DropsNothing plan.rounds (start c)

module _ (children : ProgramCircuit → List ProgramCircuit) (ws : List ℕ) (k : ℕ) where
  -- from the first circuit through these to the last: each next one is a child of the one before, costs at most k and has at
  -- most 20,004 gates
  abbrev pub IsChain : ProgramCircuit → List ProgramCircuit → ProgramCircuit → Type 0
  IsChain c [] x = c ≡ x
  IsChain c (d ∷ ds) x = Contains (children c) d × (cost ws d ≤ k) × (length d ≤ most_grown) × IsChain d ds x

  -- some circuits lead from the first to the last
  abbrev pub IsReached : ProgramCircuit → ProgramCircuit → Type 0
  IsReached c x = (ds : List ProgramCircuit) × IsChain c ds x
