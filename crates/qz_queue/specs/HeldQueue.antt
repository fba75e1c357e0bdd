-- What a queue in memory keeps.
use Rattle.std.specs.Prelude.{◌≡◌, ℕ, ◌<◌, ◌≤◌, false, List, Vec, vec_capacity}
use Rattle.qz_circ.specs.ProgramCircuits.{ProgramCircuit}
use Rattle.qz_circ.specs.Queue.{QueueList, IsQueue}
use Rattle.qz_circ.specs.Search.{is_among}
use Rattle.qz_queue.specs.declared.priced.Priced.{Priced}
use Rattle.qz_queue.specs.Circuits.{circuits_of, ArePriced, place_of}

-- a circuit that the queue doesn't refuse stands behind so many
pub record IsPlace (q : QueueList) (c : ProgramCircuit) (n : ℕ) : Type 0 where
  pub missing : is_among q.list c ≡ false
  pub at : n ≡ place_of q.weights q.list c
  pub below : n < q.cap

module _ {B : Type 0} where
  -- the queue that a number, some weights and some circuits with their prices stand for
  abbrev pub queue_of : ℕ → List ℕ → Vec Priced B → QueueList
  queue_of cap weights list = record { cap = cap; weights = weights; list = circuits_of list.items }

  -- it is a queue, its prices are right, and there is room for all that it may hold
  pub record IsHeld (cap : ℕ) (weights : List ℕ) (list : Vec Priced B) : Type 0 where
    pub lawful : IsQueue (queue_of cap weights list)
    pub priced : ArePriced weights list.items
    pub room : cap ≤ vec_capacity list
