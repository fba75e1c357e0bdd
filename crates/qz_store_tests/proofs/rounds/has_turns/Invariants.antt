use Rattle.std.proofs.Common.{◌≡◌}
use Rattle.qz_store.specs.Stores.{IsFree}
use Rattle.qz_store_tests.proofs.rounds.has_turns.Given as goal

abbrev pub invariant-loop-r : goal.invariant-loop-r
invariant-loop-r g l = record {
  free : IsFree l.store l.pass;
  shares : l.pass.view.shares ≡ l.fn.pass.view.shares;
}
