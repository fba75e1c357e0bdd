use Rattle.std.proofs.Common.{sym, ◌∙◌}
use Rattle.qz_store.proofs.Claimed.{claims_both}
use Rattle.qz_store.proofs.store.Store.join.Goals as goal

pub returns-clause-claims : goal.returns-clause-claims
returns-clause-claims c =
    claims_both c.args.pass.now.view c.args.other.view c.join.new.pass.view c.join.ensures.view (c.requires.other_free.of.1 ∙ sym c.requires.free.of.1)
