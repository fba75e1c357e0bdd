use Rattle.std.proofs.Common.{refl, subst}
use Rattle.std.specs.Prelude.{IfOk}
use Rattle.qz_top.specs.Generate.{Generates, AreMade}
use Rattle.qz_top.proofs.AnswerLemmas.{carried_alone, memory_alone}
use Rattle.qz_top.proofs.GenerateLemmas.{wanted_text, wanted_told}
use Rattle.qz_top.proofs.generate.written.Goals as goal

pub returns-clause-carried_out : goal.returns-clause-carried_out
returns-clause-carried_out g c = λ b seed input shelf is calm quiet.
    let made : AreMade b seed c.in-Ok.text.items c.in-Ok.counts = subst (λ r. IfOk r (λ m. AreMade b seed m.0.items m.1)) c.in-Ok.is is in
    let told = wanted_text b seed c.args.report c.in-Ok.counts made.counts in
    carried_alone (Generates b seed c.args.report) input shelf _ calm quiet c.in-Ok.text.items told.0 _ _
    (record { classes = made.rules.classes; class_list = made.rules.class_list; done = refl; out = made.rules.text_is; err = told.1 }) (λ a h. h.done)
    c.write_text-status.ensures.begun c.deref.ensures.value c.write_text-status.ensures.written

pub returns-clause-report : goal.returns-clause-report
returns-clause-report g c = λ b seed is e.
    let made : AreMade b seed c.in-Ok.text.items c.in-Ok.counts = subst (λ r. IfOk r (λ m. AreMade b seed m.0.items m.1)) c.in-Ok.is is in
    wanted_told b seed c.args.report c.in-Ok.counts _ _ made.counts e c.report_to_tell.ensures.own c.report_to_tell.ensures.wanted c.report_to_tell.ensures.none

pub returns-in_default-clause-carried_out : goal.returns-in_default-clause-carried_out
returns-in_default-clause-carried_out g c = λ b seed input shelf is calm quiet. memory_alone (Generates b seed c.args.report) input shelf _ calm quiet refl refl
