use Rattle.std.proofs.Common.{◌≡◌, ◌++◌, ◌∷◌, [], sym, subst, ◌∙◌, rules}
use Rattle.qz_search.proofs.Alike.{none_left}
use Rattle.qz_search.proofs.TableLaws.{IsJoining, table_sorted, joining_start, joining_step, joining_end}
use Rattle.qz_search.proofs.table.table_of.Goals as goal

pub loop-side-init : goal.loop-side-init
loop-side-init c = λ circuits children h.
    let sides = c.args.sides.items in
    let sorted = c.sort_unstable_by.new.self.items in
    subst (λ t. IsJoining circuits t sorted children) (sym c.new-table.ensures.items)
    (joining_start circuits sorted children (table_sorted circuits sides sorted children c.sort_unstable_by.ensures.permutation h))

pub loop-side-preserved : goal.loop-side-preserved
loop-side-preserved c = λ circuits children h.
    let table = c.loop-side.table.items in
    let whole = c.in_ok-joined.field-0 in
    let pushed : c.push.new.self.items ≡ table ++ whole ∷ [] = search rules in
    let joining = subst (λ ss. IsJoining circuits table ss children) c.in-Some.ensures.items (c.loop-side.invariant circuits children h) in
    subst (λ t. IsJoining circuits t c.joined.new.sides.items children) (sym pushed)
    (joining_step circuits table c.pop.new.self.items c.joined.new.sides.items c.in-Some.side whole children (c.in_ok-joined.ensures.side circuits joining.left) (c.in_ok-joined.ensures.rest circuits joining.left) (c.in_ok-joined.ensures.alike circuits) joining)

pub returns : goal.returns
returns c = λ circuits children h.
    let none = none_left c.loop-side.rest.items (sym c.loop-side.rest.ok.0 ∙ c.in_default.ensures.cases.0) in
    joining_end circuits c.loop-side.table.items c.loop-side.rest.items children none (c.loop-side.invariant circuits children h)
