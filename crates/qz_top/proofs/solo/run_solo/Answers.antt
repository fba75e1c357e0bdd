use Rattle.std.proofs.Common.{map, string_bytes, refl, sym, ap, ◌∙◌, Ok}
use Rattle.qz_top.specs.FaultTexts.{status_text}
use Rattle.qz_top.proofs.AnswerLemmas.{words_carried, words_refused, words_no_shelf_fault}
use Rattle.qz_top.proofs.AnswerTexts.{answer_tells, refusal_told, plain_done, no_report, report_told}
use Rattle.qz_top.proofs.RunLemmas.{tells_same, same_command, words_need, words_need_or, words_ask, refused_ask, file_same, refused_opens_none, refused_asks_none}
use Rattle.qz_top.specs.Run.{file_said}
use Rattle.qz_top.proofs.solo.run_solo.Goals as goal

pub returns-in-Ok-clause-carried_out : goal.returns-in-Ok-clause-carried_out
returns-in-Ok-clause-carried_out g c = words_carried (map string_bytes c.args.words.now) c.in-Ok.command _ _ c.in-Ok.ensures.command c.carry_out-status.ensures.carried_out

pub returns-in-Ok-clause-rules : goal.returns-in-Ok-clause-rules
returns-in-Ok-clause-rules g c = λ b workers seed report is done. c.carry_out-status.ensures.rules b workers seed report (same_command (map string_bytes c.args.words.now) c.in-Ok.command _ c.in-Ok.ensures.command is) done

pub returns-in-Ok-clause-optimised : goal.returns-in-Ok-clause-optimised
returns-in-Ok-clause-optimised g c = λ k plan workers is done. c.carry_out-status.ensures.optimised k plan workers (same_command (map string_bytes c.args.words.now) c.in-Ok.command _ c.in-Ok.ensures.command is) done

pub returns-in-Ok-clause-unread : goal.returns-in-Ok-clause-unread
returns-in-Ok-clause-unread g c = words_need_or (map string_bytes c.args.words.now) c.in-Ok.command _ c.in-Ok.ensures.command c.carry_out-status.ensures.unread

pub returns-in-Ok-clause-read_fault : goal.returns-in-Ok-clause-read_fault
returns-in-Ok-clause-read_fault g c = λ e. words_need (map string_bytes c.args.words.now) c.in-Ok.command _ c.in-Ok.ensures.command (c.carry_out-status.ensures.read_fault e)

-- the text for the error stream of the command
pub returns-in-Ok-clause-err_answer : goal.returns-in-Ok-clause-err_answer
returns-in-Ok-clause-err_answer g c = λ given answer is same.
    let own = answer_tells (map string_bytes c.args.words.now) c.in-Ok.command _ _ c.in-Ok.ensures.command c.carry_out-status.ensures.told given answer is same in
    tells_same _ _ own c.tell_end.ensures.told

pub returns-in-Ok-clause-err_status : goal.returns-in-Ok-clause-err_status
returns-in-Ok-clause-err_status g c = λ n. tells_same _ _ (sym (c.carry_out-status.ensures.told.not_done n)) c.tell_end.ensures.told

pub returns-in-Ok-clause-report : goal.returns-in-Ok-clause-report
returns-in-Ok-clause-report g c = λ b workers seed is done.
    let command = same_command (map string_bytes c.args.words.now) c.in-Ok.command _ c.in-Ok.ensures.command is in
    (_, report_told c.in-Ok.command b workers seed _ command (c.carry_out-status.ensures.told.done done), c.tell_end.ensures.told)

pub returns-in-Ok-clause-err_done : goal.returns-in-Ok-clause-err_done
returns-in-Ok-clause-err_done g c = λ done none.
    let plain = plain_done c.in-Ok.command _ (λ b workers seed is. none b workers seed (sym c.in-Ok.ensures.command ∙ ap Ok is)) (c.carry_out-status.ensures.told.done done) in
    c.tell_end.ensures.untouched done (no_report _ _ plain)

pub returns-in-Err-clause-err_answer : goal.returns-in-Err-clause-err_answer
returns-in-Err-clause-err_answer g c = λ given answer is same.
    tells_same _ _ (refusal_told (map string_bytes c.args.words.now) c.in-Err.fault c.in-Err.ensures.command given answer is ∙ sym (ap status_text c.status_of_words-status.ensures)) c.tell.ensures.told

pub returns-in-Err-clause-err_status : goal.returns-in-Err-clause-err_status
returns-in-Err-clause-err_status g c = λ n. c.tell.ensures.told

pub returns-in-Err-clause-carried_out : goal.returns-in-Err-clause-carried_out
returns-in-Err-clause-carried_out g c =
    rw c.status_of_words-status.ensures ((words_refused (map string_bytes c.args.words.now) c.in-Err.fault _ _ c.in-Err.ensures.command refl refl).carried_out _ refl refl)

pub returns-in-Ok-clause-at_end : goal.returns-in-Ok-clause-at_end
returns-in-Ok-clause-at_end g c = λ asks. c.carry_out-status.ensures.at_end (words_ask (map string_bytes c.args.words.now) c.in-Ok.command c.in-Ok.ensures.command asks)

pub returns-in-Err-clause-at_end : goal.returns-in-Err-clause-at_end
returns-in-Err-clause-at_end g c = λ asks. absurd (refused_ask (map string_bytes c.args.words.now) c.in-Err.fault c.in-Err.ensures.command asks)

pub returns-in-Ok-clause-file_taken : goal.returns-in-Ok-clause-file_taken
returns-in-Ok-clause-file_taken g c = λ named file asked. c.carry_out-status.ensures.file_taken named file (file_same (map string_bytes c.args.words.now) c.in-Ok.command _ c.in-Ok.ensures.command asked)

pub returns-in-Ok-clause-file_at_end : goal.returns-in-Ok-clause-file_at_end
returns-in-Ok-clause-file_at_end g c = λ some. c.carry_out-status.ensures.file_at_end (λ none. some (sym (ap file_said c.in-Ok.ensures.command) ∙ none))

pub returns-in-Ok-clause-shelf_fault : goal.returns-in-Ok-clause-shelf_fault
returns-in-Ok-clause-shelf_fault g c = λ e none. c.carry_out-status.ensures.shelf_fault e (file_same (map string_bytes c.args.words.now) c.in-Ok.command _ c.in-Ok.ensures.command none)

pub returns-in-Ok-clause-unopened : goal.returns-in-Ok-clause-unopened
returns-in-Ok-clause-unopened g c = λ none. c.carry_out-status.ensures.unopened (file_same (map string_bytes c.args.words.now) c.in-Ok.command _ c.in-Ok.ensures.command none)

pub returns-in-Err-clause-file_taken : goal.returns-in-Err-clause-file_taken
returns-in-Err-clause-file_taken g c = λ named file asked. absurd (refused_opens_none (map string_bytes c.args.words.now) c.in-Err.fault named c.in-Err.ensures.command asked)

pub returns-in-Err-clause-file_at_end : goal.returns-in-Err-clause-file_at_end
returns-in-Err-clause-file_at_end g c = λ some. absurd (some (refused_asks_none (map string_bytes c.args.words.now) c.in-Err.fault c.in-Err.ensures.command))

pub returns-in-Err-clause-shelf_fault : goal.returns-in-Err-clause-shelf_fault
returns-in-Err-clause-shelf_fault g c = λ e. absurd (words_no_shelf_fault c.in-Err.fault (sym c.status_of_words-status.ensures ∙ e))
