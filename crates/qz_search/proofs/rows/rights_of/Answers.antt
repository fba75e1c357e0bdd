use Rattle.std.proofs.Common.{◌+◌, sym, subst}
use Rattle.qz_circ.specs.Circuit.{below}
use Rattle.qz_circ.specs.Vectors.{lists_of}
use Rattle.qz_search.specs.Circuits.{IsLonger}
use Rattle.qz_search.specs.Classes.{children_of_some}
use Rattle.qz_search.specs.Tables.{AreRights}
use Rattle.qz_search.proofs.Numbers.{longer_still}
use Rattle.qz_search.proofs.RowLaws.{within_circuits, named_member, named_fits, row_passed, row_taken}
use Rattle.qz_search.proofs.rows.rights_of.Goals as goal
use Rattle.qz_search.proofs.rows.rights_of.Goals.{then-j-i+in_ok-right+in_ok-add_right, else-j-i}

pub add_right-requires-clause-left_on : goal.add_right-requires-clause-left_on
add_right-requires-clause-left_on c = (named_fits c.args.names c.args.members.now c.args.i c.args.left.now c.requires.within c.requires.fit c.requires.left).0

pub add_right-requires-clause-right_on : goal.add_right-requires-clause-right_on
add_right-requires-clause-right_on c =
    let vs = c.args.members.now in
    let is = named_member c.args.names vs c.loop-j.j c.index-members-j.result c.deref.result.now c.in_ok-right.right.items c.loop-j-test.true c.index-members-j.is c.deref.ensures.value c.in_ok-right.ensures in
    (named_fits c.args.names vs c.loop-j.j c.in_ok-right.right.items c.loop-j-test.true c.requires.fit is).0

pub add_right-requires-clause-right_short : goal.add_right-requires-clause-right_short
add_right-requires-clause-right_short c =
    let vs = c.args.members.now in
    let is = named_member c.args.names vs c.loop-j.j c.index-members-j.result c.deref.result.now c.in_ok-right.right.items c.loop-j-test.true c.index-members-j.is c.deref.ensures.value c.in_ok-right.ensures in
    (named_fits c.args.names vs c.loop-j.j c.in_ok-right.right.items c.loop-j-test.true c.requires.fit is).1

pub loop-j-preserved : goal.loop-j-preserved
loop-j-preserved c =
    let vs = c.args.members.now in
    let members = lists_of vs in
    let i = c.args.i in
    let j = c.loop-j.j in
    let left = c.args.left.now in
    let next = children_of_some members i (below (j + 1)) in
    elim c.if-j-i.branch [
      | then-j-i+in_ok-right+in_ok-add_right w ↦ (let is = named_member c.args.names vs j w.index-members-j.result w.deref.result.now w.in_ok-right.right.items c.loop-j-test.true w.index-members-j.is w.deref.ensures.value w.in_ok-right.ensures in
          let added = w.in_ok-add_right.ensures in
          let row = row_taken c.loop-j.circuits w.add_right.new.circuits c.args.names members i j left w.in_ok-right.right.items c.loop-j.rights.items w.add_right.new.rights.items w.if-j-i.true (within_circuits vs i c.requires.within) (within_circuits vs j c.loop-j-test.true) c.requires.fit c.requires.left is added c.loop-j.invariant.1 in (
            subst (IsLonger c.args.circuits.now) (sym w.circuits-is) (longer_still c.args.circuits.now c.loop-j.circuits w.add_right.new.circuits c.loop-j.invariant.0 added.longer),
            subst (λ cs. AreRights cs left c.if-j-i.rights.items next) (sym w.circuits-is) (subst (λ v. AreRights w.add_right.new.circuits left v.items next) (sym w.rights-is) row),
          ))
      | else-j-i w ↦ (let row = row_passed c.loop-j.circuits left members i j c.loop-j.rights.items w.if-j-i.false c.loop-j.invariant.1 in (
        subst (IsLonger c.args.circuits.now) (sym w.circuits-is) c.loop-j.invariant.0,
        subst (λ cs. AreRights cs left c.if-j-i.rights.items next) (sym w.circuits-is) (subst (λ v. AreRights c.loop-j.circuits left v.items next) (sym w.rights-is) row),
      ))
    ]
