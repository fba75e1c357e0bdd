-- Shards may go to other threads, and be lent to them.
use denote.Param.Send.{IsSend, IsSync, sendable}
use Rattle.std.proofs.Crossing.{crosses}
use Rattle.qz_circ.specs.contracts.bound.Bounds as bounds
use Rattle.qz_finger.specs.contracts.probe.Probe as probe
use Rattle.qz_shard.specs.contracts.class.Class as class
use Rattle.qz_shard.specs.contracts.shard.Shard as shard

bounds_send : IsSend bounds.the_row
bounds_send = search (sendable, crosses) depth 30 fits 4000

pub bounds_sync : IsSync bounds.the_row
bounds_sync = search (sendable, crosses) depth 30 fits 4000

probe_send : IsSend probe.the_row
probe_send = search (sendable, crosses) depth 30 fits 4000

pub probe_sync : IsSync probe.the_row
probe_sync = search (sendable, crosses) depth 30 fits 4000

class_send : IsSend class.the_row
class_send = search (sendable, crosses) depth 30 fits 4000

class_sync : IsSync class.the_row
class_sync = search (sendable, crosses) depth 30 fits 4000

pub shard_send : IsSend shard.the_row
shard_send = search (sendable, crosses, bounds_send, probe_send, class_send) depth 40 fits 4000

pub shard_sync : IsSync shard.the_row
shard_sync = search (sendable, crosses, bounds_sync, probe_sync, class_sync) depth 40 fits 4000
