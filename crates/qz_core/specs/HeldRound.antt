-- What a round in memory keeps.
use Rattle.std.specs.Prelude.{ℕ, ◌≤◌, List, All, Vec, vec_capacity, length}
use Rattle.qz_circ.specs.Vectors.{lists_of}
use Rattle.qz_core.specs.RoundMachine.{RoundState, IsRound}

module _ {A : Type 0} where
  -- the round that the parts of one in memory stand for
  abbrev pub round_of : List ℕ → List ℕ → ℕ → List (Vec ℕ A) → List (Vec ℕ A) → RoundState
  round_of list homes next pending shards =
      record { list = list; homes = homes; next = next; pending = lists_of pending; shards = lists_of shards }

  -- each vector has room for n
  pub record HaveRoom (n : ℕ) (vectors : List (Vec ℕ A)) : Type 0 where
    pub each : All (λ v. n ≤ vec_capacity v) vectors

  -- it is a round, and there is room for all ranks in each list
  pub record IsHeld (m : RoundState) (pending shards : List (Vec ℕ A)) : Type 0 where
    pub round : IsRound (length m.pending) m
    pub pending_room : HaveRoom (length m.list) pending
    pub shard_room : HaveRoom (length m.list) shards
