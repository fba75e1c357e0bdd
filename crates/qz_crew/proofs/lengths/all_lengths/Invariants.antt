use Rattle.qz_repgen.specs.Numbers.{IsNumberOf}
use Rattle.qz_repgen.specs.Rounds.{IsKeptUpTo}
use Rattle.qz_repgen.specs.Shards.{ShardsHold}
use Rattle.qz_repgen.proofs.RoundLemmas.{IsShorter}
use Rattle.qz_crew.proofs.lengths.all_lengths.Given as goal

-- the kept circuits of at most k gates are in the shards, and the representatives of fewer are counted
abbrev pub invariant-loop-k : goal.invariant-loop-k
invariant-loop-k g l = ShardsHold l.b l.probe.seed (IsKeptUpTo l.b l.k) l.shards.items × IsNumberOf (IsShorter l.b l.k) l.representatives
