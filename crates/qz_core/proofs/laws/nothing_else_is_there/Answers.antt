use Rattle.qz_core.proofs.Interleavings.{always, pending_entries, shard_entries, shard_homes}
use Rattle.qz_core.proofs.laws.nothing_else_is_there.Goals as goal

pub returns-clause-pending : goal.returns-clause-pending
returns-clause-pending c = always _ pending_entries

pub returns-clause-put : goal.returns-clause-put
returns-clause-put c = always _ shard_entries

pub returns-clause-home : goal.returns-clause-home
returns-clause-home c = always _ shard_homes
