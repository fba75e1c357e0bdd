use Rattle.std.proofs.Common.{◌≡◌, ◌++◌, ◌∷◌, ◌≤◌, ◌&&◌, [], true, false, nat_lt, length, sym, subst, rules}
use Rattle.qz_circ.specs.Circuit.{below}
use Rattle.qz_circ.specs.Places.{is_connected}
use Rattle.qz_match.specs.Walks.{IsWalk}
use Rattle.qz_search.specs.declared.table.Side.{Side}
use Rattle.qz_circ.specs.Vectors.{lists_of}
use Rattle.qz_search.specs.Classes.{children_of_some, children_with}
use Rattle.qz_search.specs.Tables.{AreRights, IsTable}
use Rattle.qz_search.proofs.RowLaws.{within_circuits, named_member, named_fits, all_of_some, row_skipped}
use Rattle.qz_search.proofs.TableLaws.{side_of, side_added, table_kept}
use Rattle.qz_search.proofs.rows.Rows.add_row.Goals as goal

pub of-requires : goal.of-requires
of-requires c =
    let vs = c.args.members.now in
    let is = named_member c.of-names.result vs c.args.i c.index-members-i-2.result c.deref-2.result.now c.in_ok-left.left.items c.requires.within c.index-members-i-2.is c.deref-2.ensures.value c.in_ok-left.ensures in
    record { short = subst (λ a. length a ≤ 6) (sym c.deref-3.ensures.value) (named_fits c.of-names.result vs c.args.i c.in_ok-left.left.items c.requires.within c.requires.fit is).1 }

pub returns-in-None : goal.returns-in-None
returns-in-None c = λ before h.
    let vs = c.args.members.now in
    let self = c.args.self.now in
    let left = c.in_ok-left.left.items in
    let is = named_member c.of-names.result vs c.args.i c.index-members-i-2.result c.deref-2.result.now left c.requires.within c.index-members-i-2.is c.deref-2.ensures.value c.in_ok-left.ensures in
    row_skipped self.circuits self.sides.items c.of-names.result (lists_of vs) c.args.i left before (within_circuits vs c.args.i c.requires.within) c.requires.fit is
    (subst (λ a. false ≡ (nat_lt 0 (length a) && is_connected a)) c.deref-3.ensures.value c.in-None.ensures.connected) h

pub returns : goal.returns
returns c = λ before h.
    let vs = c.args.members.now in
    let self = c.args.self.now in
    let left = c.in_ok-left.left.items in
    let new = c.rights_of.new.circuits in
    let next = children_with (lists_of vs) c.args.i in
    let is = named_member c.of-names.result vs c.args.i c.index-members-i-2.result c.deref-2.result.now left c.requires.within c.index-members-i-2.is c.deref-2.ensures.value c.in_ok-left.ensures in
    let fits = named_fits c.of-names.result vs c.args.i left c.requires.within c.requires.fit is in
    let side : Side = record { left = c.in_ok-left.left; walk = c.in-Some.walk; rights = c.in_ok-rights.rights } in
    let pushed : c.push.new.self.items ≡ self.sides.items ++ side ∷ [] = search rules in
    let rights : AreRights new left c.in_ok-rights.rights.items next = all_of_some new left vs c.args.i c.in_ok-rights.rights.items (subst (λ a. AreRights new a c.in_ok-rights.rights.items (children_of_some (lists_of vs) c.args.i (below (length vs)))) c.deref-4.ensures.value c.in_ok-rights.ensures.rights) in
    let walked = subst (λ a. true ≡ (nat_lt 0 (length a) && is_connected a)) c.deref-3.ensures.value c.in-Some.ensures.connected in
    let walk = subst (λ a. IsWalk a c.in-Some.walk) c.deref-3.ensures.value c.in-Some.ensures.walk in
    subst (λ ss. IsTable new ss (λ p. before p ++ next p)) (sym pushed)
    (side_added new self.sides.items side before next (side_of new side next fits.0 fits.1 walked walk rights) rights (table_kept self.circuits new self.sides.items before c.in_ok-rights.ensures.longer h))
