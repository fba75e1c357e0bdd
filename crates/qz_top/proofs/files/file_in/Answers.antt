use Rattle.std.proofs.Common.{refl, ap, Ok, Err}
use Rattle.qz_top.specs.Answer.{shelf_shown}
use Rattle.qz_top.proofs.FileLemmas.{file_missing, file_unopened, taken_open, told_is_found, taken_unopened}
use Rattle.qz_top.proofs.files.file_in.Goals as goal

pub returns-in-Ok-true-clause-made : goal.returns-in-Ok-true-clause-made
returns-in-Ok-true-clause-made g c =
    c.open_file.ensures.made c.args.name.now (shelf_shown g.F.Shelf c.args.shelf.now c.open.new.self)
    (record {
      found = rw c.in-Ok-true.field-0-test at c.in-Ok-true.ensures.found;
      whole = c.in-Ok-true.ensures.whole (ap Ok c.in-Ok-true.field-0-test);
      faults = c.in-Ok-true.ensures.faults;
      answered = λ h. c.in-Ok-true.ensures.answered h (λ e. cc);
    }) refl refl

pub returns-in-Ok-false-clause-made : goal.returns-in-Ok-false-clause-made
returns-in-Ok-false-clause-made g c =
    file_missing c.args.limit c.args.name.now _ (rw c.in-Ok-false.field-0-test at c.in-Ok-false.ensures.found) (λ h. c.in-Ok-false.ensures.answered h (λ e. cc))

pub returns-in-Err-clause-made : goal.returns-in-Err-clause-made
returns-in-Err-clause-made g c =
    rw c.status_of_opening.ensures (file_unopened c.args.limit c.args.name.now c.in-Err.fault _ (λ e. c.in-Err.ensures.failed (ap Err e)) (λ h k. c.in-Err.ensures.answered h (λ e. k cc)))

pub returns-in-Ok-true-clause-taken : goal.returns-in-Ok-true-clause-taken
returns-in-Ok-true-clause-taken g c = λ file tells.
    taken_open c.args.limit file _ _ _ c.args.name.now _ c.open_file.result tells (c.in-Ok-true.ensures.whole (ap Ok c.in-Ok-true.field-0-test)) c.open_file.ensures.taken c.open_file.ensures.within

pub returns-in-Ok-false-clause-taken : goal.returns-in-Ok-false-clause-taken
returns-in-Ok-false-clause-taken g c = λ file tells. absurd (told_is_found _ c.args.name.now file tells (rw c.in-Ok-false.field-0-test at c.in-Ok-false.ensures.found))

pub returns-in-Err-clause-taken : goal.returns-in-Err-clause-taken
returns-in-Err-clause-taken g c = λ file tells. rw c.status_of_opening.ensures (taken_unopened c.args.limit file _ _ c.in-Err.fault c.in-Err.ensures.kept_rest)
