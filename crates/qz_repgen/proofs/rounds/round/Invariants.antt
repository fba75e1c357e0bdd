use Rattle.std.proofs.Common.{◌≡◌, take, ◌⊎◌}
use Rattle.std.specs.Prelude.{Contains}
use Rattle.qz_repgen.specs.Rounds.{IsKeptUpTo}
use Rattle.qz_repgen.specs.Shards.{ShardsHold}
use Rattle.qz_repgen.proofs.rounds.round.Given as goal

-- the first candidates are in the shards
abbrev pub invariant-loop-r : goal.invariant-loop-r
invariant-loop-r g l =
    (l.fingerprints ≡ record { bounds = l.fn.b; probe = l.fn.probe }) × ShardsHold l.fn.b l.fn.probe.seed (λ r. IsKeptUpTo l.fn.b l.fn.k r ⊎ Contains (take l.r-index l.r-items) r) l.shards
