-- Circuits that a full queue refuses, told by their cost, their length and the gates that they begin with.
use Rattle.std.specs.Prelude.{◌≡◌, ℕ, ◌+◌, ◌<◌, ◌≤◌, List, ◌∷◌, length, take, slice_index_or}
use Rattle.std.specs.declared.cmp.Ordering.TheVariants.{Less}
use Rattle.qz_circ.specs.declared.circuit.Inst.{Inst}
use Rattle.qz_circ.specs.ProgramCircuits.{ProgramCircuit, cost, program_gate_cmp}
use Rattle.qz_circ.specs.Queue.{QueueList, firsts}
use Rattle.qz_queue.specs.declared.bar.Bar.{Bar}

-- the circuit has this cost and this length; its first gates are those of c, up to one that is earlier
pub record IsBefore (weights : List ℕ) (last c : ProgramCircuit) (b : Bar) : Type 0 where
  pub cost_is : b.cost ≡ cost weights last
  pub long_is : b.long ≡ length last
  pub at : ℕ
  pub front_is : b.front ≡ at + 1
  pub alike : take at last ≡ take at c
  pub in_last : at < length last
  pub in_other : at < length c
  pub other : Inst
  pub earlier : program_gate_cmp (slice_index_or last at other) (slice_index_or c at other) ≡ Less

-- the queue refuses each circuit of at least this cost and of at least this length that begins with so many gates of c
pub record IsBar (q : QueueList) (c : ProgramCircuit) (b : Bar) : Type 0 where
  pub within : b.front ≤ length c
  pub refused : (d : ProgramCircuit) → b.cost ≤ cost q.weights d → b.long ≤ length d → take b.front d ≡ take b.front c → firsts q.weights q.cap (d ∷ q.list) ≡ q.list
