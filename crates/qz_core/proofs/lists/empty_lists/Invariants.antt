use Rattle.std.proofs.Common.{◌≡◌, ◌≤◌, replicate, [], List, ℕ, vec_capacity}
use Rattle.qz_circ.specs.Vectors.{lists_of}
use Rattle.qz_core.specs.HeldRound.{HaveRoom}
use Rattle.qz_core.proofs.lists.empty_lists.Given as goal

abbrev pub invariant-loop : goal.invariant-loop
invariant-loop l = (lists_of l.lists.items ≡ replicate {A = List ℕ} l.counter []) × HaveRoom l.room l.lists.items × (l.count ≤ vec_capacity l.lists)
