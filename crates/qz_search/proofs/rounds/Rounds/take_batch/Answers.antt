use Rattle.std.proofs.Common.{◌≡◌, ◌≤◌, length, inl, inr, ◌++◌, take, drop, sym, ap, subst, ◌∙◌, ◌+◌, arith}
use Rattle.qz_circ.specs.ProgramCircuits.{ones, cost, program_cmp}
use Rattle.qz_circ.specs.Queue.{different}
use Rattle.qz_circ.specs.ProgramLimits.{most_gates}
use Rattle.qz_circ.specs.Vectors.{lists_of}
use Rattle.qz_circ.proofs.ProgramOrder.{cost_most}
use Rattle.qz_search.specs.Rounds.{SearchParts, IsBetweenRounds}
use Rattle.qz_search.proofs.Alike.{none_left}
use Rattle.qz_search.proofs.RoundSteps.{over, taken}
use Rattle.qz_search.proofs.rounds.Rounds.take_batch.Goals.{then-self-eq0-via-then-self-eq0, then-self-eq0-via-else-self-eq0+then-len-eq0}
use Rattle.qz_search.proofs.rounds.Rounds.take_batch.Goals as goal

pub returns-then-self-eq0-clause-found : goal.returns-then-self-eq0-clause-found
returns-then-self-eq0-clause-found c = λ classes d h. over classes d c.args.self.now h (elim c.then-self-eq0.branch [
  | then-self-eq0-via-then-self-eq0 w ↦ inl (ap (λ s. s.left) (sym c.self.view_is) ∙ w.if-self-eq0.true)
  | then-self-eq0-via-else-self-eq0+then-len-eq0 w ↦ inr (ap (λ s. s.queue.list) (sym c.self.view_is) ∙ none_left c.self.inside.queue.list (sym w.len.ensures.value ∙ w.if-len-eq0.true))
])

pub overflow_add-self : goal.overflow_add-self
overflow_add-self c =
    let ws = c.self.inside.plan.weights in
    let lawful = c.slack.ensures.lawful in
    let few : length c.self.inside.best.items ≤ most_gates = rw (← c.self.view_is) at c.requires in
    let price : c.cost.result ≡ cost ws c.self.inside.best.items = c.cost.ensures ∙ (λ i. cost (c.weights.ensures.value i) (c.deref-2.ensures.value i)) in
    record { fits = omega (arith, few, price, cost_most ws lawful.weighed c.self.inside.best.items, c.slack.ensures.value, lawful.near) }

pub returns-clause-found : goal.returns-clause-found
returns-clause-found c = λ classes d h.
    let inside = c.self.inside in
    let s : SearchParts = record { rules = inside.rules; plan = inside.plan; left = inside.left; seen = inside.test.seen; most = inside.test.most; queue = inside.queue; best = inside.best.items } in
    let view : c.args.self.now ≡ s = sym c.self.view_is in
    let left = c.take_batch.new.self in
    taken classes d s c.add_all.new.seen (lists_of c.in_ok-batch.batch.items) (c.cost.result + c.slack.result) left (subst (IsBetweenRounds classes d) view h) c.len.ensures.lawful (λ e. c.if-self-eq0.false e)
    (c.in_ok-batch.ensures.taken ∙ (λ i. take (c.batch.ensures.value i) inside.queue.list))
    (c.in_ok-batch.ensures.rest ∙ (λ i. record { cap = inside.queue.cap; weights = inside.queue.weights; list = drop (c.batch.ensures.value i) inside.queue.list }))
    (λ all g. c.in_ok-add_all.ensures all g ∙ (λ i. different (program_cmp ones) (all ++ lists_of (c.deref.ensures.value i))))
    (omega (arith, c.cost.ensures ∙ (λ i. cost (c.weights.ensures.value i) (c.deref-2.ensures.value i)), c.slack.ensures.value))
