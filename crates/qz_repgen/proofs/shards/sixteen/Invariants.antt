use Rattle.std.proofs.Common.{◌≡◌}
use Rattle.qz_repgen.specs.Shards.{empty_shards}
use Rattle.qz_repgen.proofs.shards.sixteen.Given as goal

-- the shards so far
abbrev pub invariant-loop-k : goal.invariant-loop-k
invariant-loop-k l = l.shards.items ≡ empty_shards l.b l.probe l.k
