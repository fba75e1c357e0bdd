use Rattle.std.proofs.Common.{◌≡◌, ◌++◌, ◌+◌, ℕ, List, length, sym, ap, subst, ◌∙◌, rules}
use Rattle.std.specs.List.{flat_map}
use Rattle.std.proofs.lemmas.List.{length-map}
use Rattle.qz_circ.specs.Circuit.{below}
use Rattle.qz_circ.specs.ProgramCircuits.{ProgramCircuit}
use Rattle.qz_circ.specs.Replacement.{children_in}
use Rattle.qz_circ.specs.Vectors.{lists_of}
use Rattle.qz_search.specs.Classes.{children_with}
use Rattle.qz_search.specs.Tables.{IsTable}
use Rattle.qz_search.proofs.Alike.{alike_same}
use Rattle.qz_search.proofs.RowLaws.{rows_more, rows_all}
use Rattle.qz_search.proofs.TableLaws.{table_as}
use Rattle.qz_search.proofs.rows.Rows.add_class.Goals as goal

pub loop-i-preserved : goal.loop-i-preserved
loop-i-preserved c = λ before h.
    let members = lists_of c.args.members.now in
    let i = c.loop-i.i in
    let new = c.add_row.new.self in
    let so_far : ℕ → ProgramCircuit → List ProgramCircuit = λ n p. before p ++ flat_map (λ k. children_with members k p) (below n) in
    table_as new.circuits new.sides.items (λ p. so_far i p ++ children_with members i p) (so_far (i + 1)) (alike_same _ _ (λ p lawful. rows_more members i before p))
    (c.in_ok-add_row.ensures (so_far i) (c.loop-i.invariant before h))

pub returns : goal.returns
returns c = λ before h.
    let vs = c.args.members.now in
    let members = lists_of vs in
    let self = c.loop-i.self in
    let so_far : ℕ → ProgramCircuit → List ProgramCircuit = λ n p. before p ++ flat_map (λ k. children_with members k p) (below n) in
    let done : c.loop-i.i ≡ length vs = search rules in
    let whole : IsTable self.circuits self.sides.items (so_far (length vs)) = subst (λ n. IsTable self.circuits self.sides.items (so_far n)) done (c.loop-i.invariant before h) in
    table_as self.circuits self.sides.items (so_far (length vs)) (λ p. before p ++ children_in members p)
    (alike_same _ _ (λ p lawful. ap (λ n. so_far n p) (sym (length-map vs (λ v. v.items))) ∙ ap (λ cs. before p ++ cs) (rows_all members p))) whole
