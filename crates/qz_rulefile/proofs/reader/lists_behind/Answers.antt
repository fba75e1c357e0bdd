use Rattle.std.proofs.Common.{zero, suc, refl, ◌≡◌, ◌∙◌, ◌<◌, ◌++◌, sym, ap, subst, arith, length, List, ℕ}
use Rattle.std.proofs.lemmas.Bool.{eqb-true, eqb-false}
use Rattle.qz_circ.specs.Circuit.{Circuit}
use Rattle.qz_circ.specs.RuleFiles.{RuleClasses, IsFile}
use Rattle.qz_rulefile.proofs.WholeFiles.{kept_classes, kept_fit, kept_file, rest_place, rest_within, behind_fails}
use Rattle.qz_rulefile.proofs.reader.lists_behind.Goals as goal

positive : (n : ℕ) → (n ≡ 0 → ⊥) → 0 < n
positive zero ne = absurd (ne refl)
positive (suc n) ne = omega arith

pub returns-in-Err : goal.returns-in-Err
returns-in-Err c = behind_fails c.args.b c.requires c.args.bytes.now c.in-Err.fault c.in-Err.ensures

pub returns-then-not-is_empty : goal.returns-then-not-is_empty
returns-then-not-is_empty c =
    let k = kept_classes c.args.b c.requires c.args.bytes.now c.in-Ok.kept.1.now c.in-Ok.kept.0.0.items c.in-Ok.kept.0.1.items c.in-Ok.ensures in
    let some : 0 < length c.in-Ok.kept.1.now = positive (length c.in-Ok.kept.1.now) (eqb-false (length c.in-Ok.kept.1.now) 0 (sym c.is_empty.ensures ∙ c.if-not-is_empty.true)) in (
      rest_within c.args.b c.requires c.args.bytes.now c.in-Ok.kept.1.now c.in-Ok.kept.0.0.items c.in-Ok.kept.0.1.items k,
      λ head is_head. rest_place c.args.b c.requires c.args.bytes.now c.in-Ok.kept.1.now c.in-Ok.kept.0.0.items c.in-Ok.kept.0.1.items head k some is_head,
    )

pub new-requires-clause-listed : goal.new-requires-clause-listed
new-requires-clause-listed c = (kept_classes c.args.b c.requires c.args.bytes.now c.in-Ok.kept.1.now c.in-Ok.kept.0.0.items c.in-Ok.kept.0.1.items c.in-Ok.ensures).keeps.each

pub new-requires-clause-ends : goal.new-requires-clause-ends
new-requires-clause-ends c = (kept_classes c.args.b c.requires c.args.bytes.now c.in-Ok.kept.1.now c.in-Ok.kept.0.0.items c.in-Ok.kept.0.1.items c.in-Ok.ensures).keeps.ends

pub new-requires-clause-fit : goal.new-requires-clause-fit
new-requires-clause-fit c = kept_fit c.args.b c.args.bytes.now c.in-Ok.kept.1.now c.in-Ok.kept.0.0.items c.in-Ok.kept.0.1.items (kept_classes c.args.b c.requires c.args.bytes.now c.in-Ok.kept.1.now c.in-Ok.kept.0.0.items c.in-Ok.kept.0.1.items c.in-Ok.ensures)

pub returns : goal.returns
returns c =
    let k = kept_classes c.args.b c.requires c.args.bytes.now c.in-Ok.kept.1.now c.in-Ok.kept.0.0.items c.in-Ok.kept.0.1.items c.in-Ok.ensures in
    let none : length c.in-Ok.kept.1.now ≡ 0 = eqb-true (length c.in-Ok.kept.1.now) 0 (sym c.is_empty.ensures ∙ c.if-not-is_empty.false) in (
      ap (λ (v : RuleClasses). v.bounds) c.new.ensures,
      λ head is_head. subst (λ (cs : List (List Circuit)). IsFile c.args.b cs (head ++ c.args.bytes.now)) (sym (ap (λ (v : RuleClasses). v.classes) c.new.ensures))
          (kept_file c.args.b c.requires c.args.bytes.now c.in-Ok.kept.1.now c.in-Ok.kept.0.0.items c.in-Ok.kept.0.1.items head k none is_head),
    )
