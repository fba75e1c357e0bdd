use Rattle.std.proofs.Common.{◌≡◌, cond, true, false, IfOk, sym, ap, subst, ◌∙◌}
use Rattle.std.specs.Ordering.{is_lt}
use Rattle.std.specs.List.{filter}
use Rattle.qz_circ.specs.ProgramCircuits.{ProgramCircuit, program_cmp}
use Rattle.qz_circ.specs.Search.{earliest, is_short}
use Rattle.qz_search.proofs.Offering.{earliest_of_queue}
use Rattle.qz_search.proofs.offer.earlier.Goals as goal

pub returns-then-is_lt : goal.returns-then-is_lt
returns-then-is_lt c =
    let P : ProgramCircuit → Type 0 = λ d. IfOk c.copy_of.result (λ b. b.items ≡ d) in
    let q = c.args.queue.now in
    let first = c.in-Some.first.now in
    let best = c.args.best.now in
    let before : is_lt (program_cmp q.weights first best) ≡ true = (λ i. is_lt (program_cmp (sym c.weights.ensures.value i) first best)) ∙ ap is_lt (sym c.prec_by.ensures) ∙ sym c.is_lt.ensures ∙ c.if-is_lt.true in
    subst P (sym (earliest_of_queue best q is_short first c.in-Some.ensures.lawful c.in-Some.ensures.first ∙ (λ i. cond (before i) first best))) c.copy_of.ensures

pub returns-else-is_lt : goal.returns-else-is_lt
returns-else-is_lt c =
    let P : ProgramCircuit → Type 0 = λ d. IfOk c.copy_of-else-is_lt.result (λ b. b.items ≡ d) in
    let q = c.args.queue.now in
    let first = c.in-Some.first.now in
    let best = c.args.best.now in
    let before : is_lt (program_cmp q.weights first best) ≡ false = (λ i. is_lt (program_cmp (sym c.weights.ensures.value i) first best)) ∙ ap is_lt (sym c.prec_by.ensures) ∙ sym c.is_lt.ensures ∙ c.if-is_lt.false in
    subst P (sym (earliest_of_queue best q is_short first c.in-Some.ensures.lawful c.in-Some.ensures.first ∙ (λ i. cond (before i) first best))) c.copy_of-else-is_lt.ensures
