use Rattle.std.proofs.Common.{refl}
use Rattle.qz_crew.proofs.TurnLemmas.{tried_none, tried_lost, tried_same, tried_put, still_pending, put_has}
use Rattle.qz_crew.proofs.turns.put.Goals as goal

pub try_put_with_print-requires-clause-free : goal.try_put_with_print-requires-clause-free
try_put_with_print-requires-clause-free g c = c.loop.invariant.1.free

pub try_put_with_print-requires-clause-pending : goal.try_put_with_print-requires-clause-pending
try_put_with_print-requires-clause-pending g c = still_pending c.args.store.now c.args.pass.now c.loop.pass c.args.r c.loop.invariant.1 c.loop.invariant.2 c.requires.pending
