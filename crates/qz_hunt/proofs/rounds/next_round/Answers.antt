use Rattle.std.proofs.Common.{◌∙◌}
use Rattle.qz_hunt.proofs.AheadLemmas.{parted, fit_first, fit_rest, round_ahead}
use Rattle.qz_hunt.proofs.rounds.next_round.Goals as goal

pub offer_first-requires : goal.offer_first-requires
offer_first-requires g c =
    let parts = parted _ c.args.batch.items c.deref.result.now c.in-Ok.rest.items (c.deref.ensures.value ∙ c.in-Ok.ensures.items) c.in-Ok.ensures.tail in
    record { fit = fit_first _ _ _ parts c.requires.fit }

pub shared_round-requires-clause-fit : goal.shared_round-requires-clause-fit
shared_round-requires-clause-fit g c κs within =
    let parts = parted _ c.args.batch.items c.deref.result.now c.in-Ok.rest.items (c.deref.ensures.value ∙ c.in-Ok.ensures.items) c.in-Ok.ensures.tail in
    fit_rest _ _ _ parts c.requires.fit

pub returns : goal.returns
returns g c =
    let parts = parted _ c.args.batch.items c.deref.result.now c.in-Ok.rest.items (c.deref.ensures.value ∙ c.in-Ok.ensures.items) c.in-Ok.ensures.tail in
    round_ahead c.args.search _ _ _ _ c.shared_round.result parts c.in_ok-offer_first.ensures.offered c.shared_round.ensures
