-- What a search offers to its queue, and where it stands.
use Rattle.std.specs.Prelude.{◌≡◌, ℕ, ◌≤◌, nat_le, Bool, not, ◌&&◌, Option, Some, List, ◌∷◌, ◌++◌, length, Contains}
use Rattle.std.specs.List.{AllByRecursion}
use Rattle.qz_circ.specs.ProgramCircuits.{ProgramCircuit, IsProgramGate, ones, cost, program_cmp}
use Rattle.qz_circ.specs.Places.{PlaceParts}
use Rattle.qz_queue.specs.declared.bar.Bar.{Bar}
use Rattle.qz_circ.specs.Queue.{QueueList, different, firsts}
use Rattle.qz_circ.specs.Search.{PlanNumbers, SearchState, is_among, most_grown}
use Rattle.qz_circ.specs.ProgramLimits.{most_qubits}

-- the circuit is none of those that were taken, costs at most so much by these weights, and has at most 20,004 gates
abbrev pub is_new : List ℕ → List ProgramCircuit → ℕ → ProgramCircuit → Bool
is_new ws seen most c = not (is_among seen c) && (nat_le (cost ws c) most && nat_le (length c) most_grown)

-- the queue after these circuits were offered
abbrev pub offered_to : QueueList → List ProgramCircuit → QueueList
offered_to q cs = record { cap = q.cap; weights = q.weights; list = firsts q.weights q.cap (q.list ++ cs) }

-- the circuit has program gates on 64 qubits, and few enough of them
pub record IsFit (c : ProgramCircuit) : Type 0 where
  pub gates : AllByRecursion (IsProgramGate most_qubits) c
  pub short : length c ≤ most_grown

-- each of the circuits is so
abbrev pub AreFit : List ProgramCircuit → Type 0
AreFit cs = (c : ProgramCircuit) → Contains cs c → IsFit c

-- what stands in memory is the state of a search by this plan
pub record IsAt (plan : PlanNumbers) (s : SearchState) (seen : List ProgramCircuit) (queue : QueueList) (best : ProgramCircuit) : Type 0 where
  pub seen_is : seen ≡ different (program_cmp ones) s.seen
  pub queue_is : queue ≡ record { cap = plan.cap; weights = plan.weights; list = s.queue }
  pub best_is : best ≡ s.best

-- what circuits with program gates on 64 qubits become has such gates too
abbrev pub KeepsGates : (ProgramCircuit → List ProgramCircuit) → Type 0
KeepsGates children = (y z : ProgramCircuit) → AllByRecursion (IsProgramGate most_qubits) y → Contains (children y) z → AllByRecursion (IsProgramGate most_qubits) z

-- the bar tells that what costs so much and is so long after a step at this place would not change the queue
pub record IsBarred (known : Option Bar) (n long : ℕ) (place : PlaceParts) : Type 0 where
  pub bar : Bar
  pub first : ℕ
  pub rest : List ℕ
  pub is : known ≡ Some bar
  pub positions : place.positions ≡ first ∷ rest
  pub dear : bar.cost ≤ n
  pub long_enough : bar.long ≤ long
  pub behind : bar.front ≤ first
