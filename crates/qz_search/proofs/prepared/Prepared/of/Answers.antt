use Rattle.std.proofs.Common.{◌++◌, take, sym, subst, rules, arith}
use Rattle.std.proofs.lemmas.List.{take_all}
use Rattle.qz_circ.specs.Bounds.{IsLawful}
use Rattle.qz_circ.specs.Replacement.{children, children_in}
use Rattle.qz_circ.specs.Vectors.{lists_of}
use Rattle.qz_search.specs.Classes.{AreRuleSides}
use Rattle.qz_search.specs.Tables.{IsTable}
use Rattle.qz_search.proofs.ClassLimits.{rule_sides, sound_classes}
use Rattle.qz_search.proofs.ClassRows.{no_classes, class_added}
use Rattle.qz_search.proofs.prepared.Prepared.of.Goals as goal

pub loop-c-init : goal.loop-c-init
loop-c-init c =
    let rows = c.new-rows.result in
    subst (IsTable rows.circuits rows.sides.items) (no_classes c.args.rules.now.classes) c.new-rows.ensures

pub thinned-requires : goal.thinned-requires
thinned-requires c =
    let lawful : IsLawful c.bounds-bounds.result = search rules in
    let rules = c.args.rules.now in
    record { fit = subst AreRuleSides (sym c.in_ok-members_of.ensures) (rule_sides rules.bounds rules.classes c.loop-c.c (subst IsLawful c.bounds-bounds.ensures.bounds lawful) c.bounds-bounds.ensures.fit (omega (arith, c.loop-c-test.true, c.len-c-end.ensures.len))) }

pub loop-c-preserved : goal.loop-c-preserved
loop-c-preserved c =
    let rows = c.add_class.new.self in
    let classes = c.args.rules.now.classes in
    let k = c.loop-c.c in
    let members = lists_of c.in_ok-members_of.field-0.items in
    let kept = lists_of c.in_ok-members.members.items in
    let before = children (take k classes) in
    let added = c.in_ok-add_class.ensures before c.loop-c.invariant in
    class_added rows.circuits rows.sides.items classes k members kept (omega (arith, c.loop-c-test.true, c.len-c-end.ensures.len)) c.in_ok-members_of.ensures c.in_ok-members.ensures.alike
    (subst (λ vs. IsTable rows.circuits rows.sides.items (λ p. before p ++ children_in (lists_of vs) p)) c.deref.ensures.value added)

pub invariant_of-result : goal.invariant_of-result
invariant_of-result c =
    (c.in_ok-table_of.ensures c.loop-c.rows.circuits (children (take c.loop-c.c c.args.rules.now.classes)) c.loop-c.invariant).each

pub returns-clause-alike : goal.returns-clause-alike
returns-clause-alike c =
    let classes = c.args.rules.now.classes in
    let table : IsTable c.loop-c.rows.circuits c.in_ok-table_of.field-0.items (children classes) = subst (λ cs. IsTable c.loop-c.rows.circuits c.in_ok-table_of.field-0.items (children cs)) (take_all c.loop-c.c classes (omega (arith, c.loop-c-test.false, c.len-c-end.ensures.len))) (c.in_ok-table_of.ensures c.loop-c.rows.circuits (children (take c.loop-c.c classes)) c.loop-c.invariant) in
    table.alike

pub returns-clause-sound : goal.returns-clause-sound
returns-clause-sound c =
    let lawful : IsLawful c.bounds-bounds.result = search rules in
    let rules = c.args.rules.now in
    sound_classes rules.bounds rules.classes (subst IsLawful c.bounds-bounds.ensures.bounds lawful) c.bounds-bounds.ensures.fit c.bounds-bounds.ensures.sound
