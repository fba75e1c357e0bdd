use Rattle.std.proofs.Common.{◌≡◌, ◌<◌, All}
use Rattle.qz_circuit_tests.proofs.shards.filled.Given as goal

-- the shard has ranks below the next one
abbrev pub invariant-loop-r : goal.invariant-loop-r
invariant-loop-r g l = record {
  bounds : l.shard.bounds ≡ l.home.bounds;
  probe : l.shard.probe ≡ l.home.probe;
  number : l.shard.number ≡ l.home.number;
  earlier : All (λ t. t < l.r) l.shard.journal;
}
