use Rattle.std.proofs.Common.{sym, ap, subst, ◌∙◌, All}
use Rattle.qz_shard.specs.Shards.{IsShard}
use Rattle.qz_store.specs.declared.kept.Kept.{Kept}
use Rattle.qz_store.specs.Closing.{IsClosedStore}
use Rattle.qz_store.proofs.Closed.{closed_store}
use Rattle.qz_store.proofs.store.Store.close.Goals as goal

pub returns-clause-grown : goal.returns-clause-grown
returns-clause-grown c =
    let terms = c.requires.free.of.1 ∙ sym (ap (λ s. s.seats.terms) c.self.view_is) in
    let shards = c.unpacked.ensures.shards in
    subst (λ s. IsClosedStore s c.args.pass.view c.unpacked.result.items) c.self.view_is
    (subst (IsClosedStore _ c.args.pass.view) (sym shards)
    (closed_store _ _ _ _ c.self.invariant c.args.pass.view terms (λ (x : Kept). x.shard) (λ (x : Kept). x.names.value.items) c.close.result.items c.close.ensures
    (subst (All IsShard) shards c.unpacked.ensures.are_shards)))
