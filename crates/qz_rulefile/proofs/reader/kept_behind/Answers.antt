use Rattle.std.proofs.Common.{[], ◌∙◌, sym, ap}
use Rattle.qz_circ.specs.Circuit.{Limits}
use Rattle.qz_rulefile.specs.Reading.{class_at}
use Rattle.qz_rulefile.specs.Flat.{kept_at, folded_at, with_class}
use Rattle.qz_rulefile.proofs.Folds.{kept_uncounted, kept_fails, kept_unended, kept_whole, handed_on}
use Rattle.qz_rulefile.proofs.reader.kept_behind.Goals as goal

pub returns-in-Err : goal.returns-in-Err
returns-in-Err c = kept_uncounted c.args.b c.args.bytes.now c.in-Err.n c.in-Err.ensures

pub returns-in-Err-classes : goal.returns-in-Err-classes
returns-in-Err-classes c =
    let same = ap (λ (d : Limits). folded_at with_class (record { members = []; ends = [] }) (class_at d) c.in-Ok-classes_count.count.0 c.in-Ok-classes_count.count.1.now) c.in-Ok.ensures in
    handed_on c.in-Err-classes.fault (folded_at with_class (record { members = []; ends = [] }) (class_at c.in-Ok.texts.bounds) c.in-Ok-classes_count.count.0 c.in-Ok-classes_count.count.1.now)
    (kept_at c.args.b c.args.bytes.now) c.in-Err-classes.ensures
    (λ n e. kept_fails c.args.b c.args.bytes.now c.in-Ok-classes_count.count.1.now c.in-Ok-classes_count.count.0 n c.in-Ok-classes_count.ensures (sym same ∙ e))

pub returns-in-Ok-end : goal.returns-in-Ok-end
returns-in-Ok-end c =
    let same = ap (λ (d : Limits). folded_at with_class (record { members = []; ends = [] }) (class_at d) c.in-Ok-classes_count.count.0 c.in-Ok-classes_count.count.1.now) c.in-Ok.ensures in
    kept_whole c.args.b c.args.bytes.now c.in-Ok-classes_count.count.1.now c.in-Ok-classes.kept.1.now c.in-Ok-end.rest.now c.in-Ok-classes_count.count.0 0 (record { members = c.in-Ok-classes.kept.0.0.items; ends = c.in-Ok-classes.kept.0.1.items })
    c.in-Ok-classes_count.ensures (sym same ∙ c.in-Ok-classes.ensures) c.in-Ok-end.ensures

pub returns : goal.returns
returns c =
    let same = ap (λ (d : Limits). folded_at with_class (record { members = []; ends = [] }) (class_at d) c.in-Ok-classes_count.count.0 c.in-Ok-classes_count.count.1.now) c.in-Ok.ensures in
    kept_unended c.args.b c.args.bytes.now c.in-Ok-classes_count.count.1.now c.in-Ok-classes.kept.1.now c.in-Ok-classes_count.count.0 c.in-Err-end.n (record { members = c.in-Ok-classes.kept.0.0.items; ends = c.in-Ok-classes.kept.0.1.items })
    c.in-Ok-classes_count.ensures (sym same ∙ c.in-Ok-classes.ensures) c.in-Err-end.ensures
