-- A pass may go to another thread, and a store may be lent to it.
use denote.Param.Send.{IsSend, IsSync, sendable}
use Rattle.std.proofs.Crossing.{crosses}
use Rattle.qz_seats.specs.contracts.pass.Pass as pass
use Rattle.qz_seats.proofs.pass.Pass.TheSendSync as pass_crosses
use Rattle.qz_seats.proofs.seats.Seats.TheSendSync as seats_crosses
use Rattle.qz_shard.proofs.Crossing.{bounds_sync, probe_sync, shard_send, shard_sync}
use Rattle.qz_store.specs.contracts.kept.Kept as kept
use Rattle.qz_store.specs.contracts.store.Store as store

kept_send : IsSend kept.the_row
kept_send = search (sendable, crosses, shard_send) depth 30 fits 4000

pub pass_send : IsSend (pass.the_row kept.the_row)
pass_send = search (pass_crosses.the_send, kept_send)

pub store_sync : IsSync store.the_row
store_sync = search (sendable, crosses, seats_crosses.the_sync, kept_send, bounds_sync, probe_sync, shard_sync) depth 30 fits 4000
