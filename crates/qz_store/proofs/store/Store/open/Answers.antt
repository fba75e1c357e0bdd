use Rattle.std.proofs.Common.{arith}
use Rattle.qz_store.specs.declared.kept.Kept.{Kept}
use Rattle.qz_store.proofs.Opened.{few_ranks, have_names, opened_store, opened_is}
use Rattle.qz_store.proofs.store.Store.open.Goals as goal

pub open-requires-clause-limit : goal.open-requires-clause-limit
open-requires-clause-limit c =
    let made = c.in_ok-values.ensures in
    let few = few_ranks c.args.b c.args.probe c.args.list.items c.args.old.items c.requires.list c.requires.old (λ (x : Kept). x.shard) (λ (x : Kept). x.names.value.items) c.in_ok-values.values.items made.shards made.names made.are_shards in
    omega (arith, few, c.len.ensures, c.args.list.ok)

pub open-requires-clause-names : goal.open-requires-clause-names
open-requires-clause-names c =
    let made = c.in_ok-values.ensures in
    have_names c.args.b c.args.probe c.args.list.items c.args.old.items c.requires.list c.requires.old (λ (x : Kept). x.shard) (λ (x : Kept). x.names.value.items) c.in_ok-values.values.items made.shards made.names made.are_shards
    c.len.result (omega (arith, c.len.ensures, c.args.list.ok))

pub invariant_of-store : goal.invariant_of-store
invariant_of-store c =
    let made = c.in_ok-values.ensures in
    opened_store c.args.b c.args.probe c.args.list.items c.args.old.items c.requires.list c.requires.old (λ (x : Kept). x.shard) (λ (x : Kept). x.names.value.items) c.in_ok-values.values.items made.shards made.names made.are_shards
    c.len.result c.args.seats (omega (arith, c.len.ensures, c.args.list.ok)) c.in_ok-table.table c.in_ok-table.ensures.terms
    c.in-Ok.room.items _ c.in-Ok.ensures.items (omega (arith, c.in-Ok.ensures.exact))

pub returns-clause-opened : goal.returns-clause-opened
returns-clause-opened c =
    let made = c.in_ok-values.ensures in
    opened_is c.args.b c.args.probe c.args.list.items c.args.old.items c.requires.list c.requires.old (λ (x : Kept). x.shard) (λ (x : Kept). x.names.value.items) c.in_ok-values.values.items made.shards made.names made.are_shards
    c.len.result c.args.seats (omega (arith, c.len.ensures, c.args.list.ok)) c.in_ok-table.table c.in_ok-table.ensures.terms
