use Rattle.std.proofs.Common.{[], ◌∷◌, ◌∙◌}
use Rattle.qz_circ.specs.Queue.{firsts}
use Rattle.qz_search.proofs.RoundSteps.{by_table, begun}
use Rattle.qz_search.proofs.rounds.Rounds.begin.Goals as goal

pub returns-clause-between : goal.returns-clause-between
returns-clause-between c =
    let plan = c.args.plan in
    let circuit = c.args.c.now in
    let classes = c.args.rules.now.classes in
    let given = c.in_ok-queue.ensures ∙ (λ i. record { cap = c.cap.ensures.value i; weights = c.weights.ensures.value i; list = [] }) in
    let offered = c.offer.ensures.list ∙ (λ i. record { cap = (given i).cap; weights = (given i).weights; list = firsts (given i).weights (given i).cap (c.in_ok-copy_of.ensures i ∷ (given i).list) }) in
    let of = by_table classes circuit c.in_ok-rules.rules plan c.in_ok-rules.ensures.alike c.in_ok-rules.ensures.sound c.cap.ensures.lawful c.requires.gates c.requires.few in
    begun classes circuit _ of c.rounds.ensures.value c.new.ensures offered c.in_ok-best.ensures
