use Rattle.std.proofs.Common.{map, string_bytes, sym, ap, ◌∙◌, Ok}
use Rattle.qz_top.proofs.AnswerLemmas.{words_carried}
use Rattle.qz_top.proofs.AnswerTexts.{answer_tells, plain_done, no_report, report_told}
use Rattle.qz_top.proofs.RunLemmas.{tells_same, same_command, words_need, words_need_or, words_ask, file_same}
use Rattle.qz_top.specs.Run.{file_said}
use Rattle.qz_top.proofs.several.run.Goals as goal

pub returns-in-Some-clause-carried_out : goal.returns-in-Some-clause-carried_out
returns-in-Some-clause-carried_out g c = words_carried (map string_bytes c.args.words.now) c.in-Some.command _ _ c.in-Some.ensures.command c.carry_out-status.ensures.carried_out

pub returns-in-Some-clause-rules : goal.returns-in-Some-clause-rules
returns-in-Some-clause-rules g c = λ b workers seed report is done. c.carry_out-status.ensures.rules b workers seed report (same_command (map string_bytes c.args.words.now) c.in-Some.command _ c.in-Some.ensures.command is) done

pub returns-in-Some-clause-optimised : goal.returns-in-Some-clause-optimised
returns-in-Some-clause-optimised g c = λ k plan workers is done. c.carry_out-status.ensures.optimised k plan workers (same_command (map string_bytes c.args.words.now) c.in-Some.command _ c.in-Some.ensures.command is) done

pub returns-in-Some-clause-unread : goal.returns-in-Some-clause-unread
returns-in-Some-clause-unread g c = words_need_or (map string_bytes c.args.words.now) c.in-Some.command _ c.in-Some.ensures.command c.carry_out-status.ensures.unread

pub returns-in-Some-clause-read_fault : goal.returns-in-Some-clause-read_fault
returns-in-Some-clause-read_fault g c = λ e. words_need (map string_bytes c.args.words.now) c.in-Some.command _ c.in-Some.ensures.command (c.carry_out-status.ensures.read_fault e)

-- the text for the error stream of the command
pub returns-in-Some-clause-err_answer : goal.returns-in-Some-clause-err_answer
returns-in-Some-clause-err_answer g c = λ given answer is same.
    let own = answer_tells (map string_bytes c.args.words.now) c.in-Some.command _ _ c.in-Some.ensures.command c.carry_out-status.ensures.told given answer is same in
    tells_same _ _ own c.tell_end.ensures.told

pub returns-in-Some-clause-err_status : goal.returns-in-Some-clause-err_status
returns-in-Some-clause-err_status g c = λ n. tells_same _ _ (sym (c.carry_out-status.ensures.told.not_done n)) c.tell_end.ensures.told

pub returns-in-Some-clause-report : goal.returns-in-Some-clause-report
returns-in-Some-clause-report g c = λ b workers seed is done.
    let command = same_command (map string_bytes c.args.words.now) c.in-Some.command _ c.in-Some.ensures.command is in
    (_, report_told c.in-Some.command b workers seed _ command (c.carry_out-status.ensures.told.done done), c.tell_end.ensures.told)

pub returns-in-Some-clause-err_done : goal.returns-in-Some-clause-err_done
returns-in-Some-clause-err_done g c = λ done none.
    let plain = plain_done c.in-Some.command _ (λ b workers seed is. none b workers seed (sym c.in-Some.ensures.command ∙ ap Ok is)) (c.carry_out-status.ensures.told.done done) in
    c.tell_end.ensures.untouched done (no_report _ _ plain)

pub returns-in-Some-clause-at_end : goal.returns-in-Some-clause-at_end
returns-in-Some-clause-at_end g c = λ asks. c.carry_out-status.ensures.at_end (words_ask (map string_bytes c.args.words.now) c.in-Some.command c.in-Some.ensures.command asks)

pub returns-in-Some-clause-file_taken : goal.returns-in-Some-clause-file_taken
returns-in-Some-clause-file_taken g c = λ named file asked. c.carry_out-status.ensures.file_taken named file (file_same (map string_bytes c.args.words.now) c.in-Some.command _ c.in-Some.ensures.command asked)

pub returns-in-Some-clause-file_at_end : goal.returns-in-Some-clause-file_at_end
returns-in-Some-clause-file_at_end g c = λ some. c.carry_out-status.ensures.file_at_end (λ none. some (sym (ap file_said c.in-Some.ensures.command) ∙ none))

pub returns-in-Some-clause-shelf_fault : goal.returns-in-Some-clause-shelf_fault
returns-in-Some-clause-shelf_fault g c = λ e none. c.carry_out-status.ensures.shelf_fault e (file_same (map string_bytes c.args.words.now) c.in-Some.command _ c.in-Some.ensures.command none)

pub returns-in-Some-clause-unopened : goal.returns-in-Some-clause-unopened
returns-in-Some-clause-unopened g c = λ none. c.carry_out-status.ensures.unopened (file_same (map string_bytes c.args.words.now) c.in-Some.command _ c.in-Some.ensures.command none)
