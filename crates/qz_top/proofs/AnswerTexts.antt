-- The answers' texts for the error stream are those of their statuses.
use Rattle.std.proofs.Common.{◌≡◌, ℕ, ◌∙◌, List, [], Bool, true, false, if◌then◌else◌, Option, Some, None, Result, Ok, Err, refl, sym, ap, subst, inl, inr, nat_lt, length, slice_index_or}
use Rattle.std.specs.Prelude.{◌≢◌, ◌⊎◌, MatchResult}
use Rattle.qz_circ.specs.declared.report.Report.{Report}
use Rattle.qz_circ.specs.declared.fault.QasmFault.{QasmFault}
use Rattle.qz_circ.specs.declared.fault.RuleFault.{RuleFault}
use Rattle.qz_circ.specs.Circuit.{Limits}
use Rattle.qz_circ.specs.Grammar.{program_of}
use Rattle.qz_circ.specs.Programs.{ProgramParts}
use Rattle.qz_circ.specs.RuleFiles.{RuleClasses}
use Rattle.qz_circ.specs.Search.{PlanNumbers}
use Rattle.qz_repgen.proofs.ReportLaws.{report_same}
use Rattle.qz_top.specs.declared.files.FileLimit.{FileLimit}
use Rattle.qz_top.specs.declared.words.Command.{Command}
use Rattle.qz_top.specs.declared.words.Command.TheVariants.{Generate, Tidy, Optimise, Trial, Check}
use Rattle.qz_top.specs.declared.words.WordFault.{WordFault}
use Rattle.qz_top.specs.declared.status.Status.{Status}
use Rattle.qz_top.specs.declared.status.Status.TheVariants as status
use Rattle.qz_top.specs.Answer.{Answer, Given, refused_with}
use Rattle.qz_top.specs.FaultTexts.{status_text}
use Rattle.qz_top.specs.Inputs.{most_input_bytes, program_answer, input_answer}
use Rattle.qz_top.specs.Check.{program_file, check_refusal, PairAnswer, ProgramAnswer, ComparedAnswer, OtherAnswer, OtherBytesAnswer, Checks}
use Rattle.qz_top.specs.Files.{FileAnswer}
use Rattle.qz_top.specs.Optimise.{rule_file, optimised_text, RulesAnswer, RuleBytesAnswer, Optimises}
use Rattle.qz_top.specs.Reports.{report_text, IsReportText, end_text}
use Rattle.qz_top.specs.Run.{status_of_words, CommandAnswers, WordsAnswer, TellsDone, IsForErr}
use Rattle.qz_top.specs.Words.{command_of}

-- the text for the error stream is that of the status
abbrev TellsStatus : Answer → Type 0
TellsStatus answer = answer.err ≡ status_text answer.status

-- a refusal tells its status
refusal_tells : (s : Status) (answer : Answer) → answer ≡ refused_with s → TellsStatus answer
refusal_tells s answer is = subst TellsStatus (sym is) refl

-- so does either of two answers
either_tells : (b : Bool) (x y : Answer) → TellsStatus x → TellsStatus y → TellsStatus (if b then x else y)
either_tells true x y first second = first
either_tells false x y first second = second

-- the answer to a program
program_tells : (text : ProgramParts → List ℕ) (r : Result ProgramParts QasmFault) → TellsStatus (program_answer text r)
program_tells text (Ok p) = refl
program_tells text (Err e) = refl

-- the answer to an input
input_tells : (text : ProgramParts → List ℕ) (input : List ℕ) → TellsStatus (input_answer text input)
unfolding input_answer
input_tells text input = either_tells (nat_lt most_input_bytes (length input)) _ _ refl (program_tells text (program_of input))

-- the answers to a file
file_tells : (limit : FileLimit) (BytesAnswer : List ℕ → Answer → Type 0) (file : Option (List ℕ)) (answer : Answer) → ((bytes : List ℕ) → BytesAnswer bytes answer → TellsStatus answer) → FileAnswer limit BytesAnswer file answer → TellsStatus answer
file_tells limit BytesAnswer None answer tells is = refusal_tells _ answer is
file_tells limit BytesAnswer (Some file) answer tells (inl long) = refusal_tells _ answer long.1
file_tells limit BytesAnswer (Some file) answer tells (inr short) = tells file short.1

-- the answers to what a rule file says
rules_tell : (plan : PlanNumbers) (given : Given) (said : Result RuleClasses RuleFault) (answer : Answer) → RulesAnswer plan given said answer → TellsStatus answer
rules_tell plan given (Ok rules) answer is = subst TellsStatus (sym is) (input_tells (optimised_text rules plan) given.input)
rules_tell plan given (Err e) answer is = refusal_tells _ answer is

optimisation_tells : (name : List ℕ) (plan : PlanNumbers) (given : Given) (answer : Answer) → Optimises name plan given answer → TellsStatus answer
optimisation_tells name plan given answer is = file_tells rule_file (RuleBytesAnswer plan given) (given.files name) answer (λ bytes said. rules_tell plan given said.0 answer said.2) is

-- the answers to two programs
pair_tells : (p file : ProgramParts) (refused : Option Status) (answer : Answer) → PairAnswer p file refused answer → TellsStatus answer
pair_tells p file (Some s) answer is = refusal_tells s answer is
pair_tells p file None answer is = subst TellsStatus (sym is.2) refl

-- those to what the input says
compared_tells : (file : ProgramParts) (said : Result ProgramParts QasmFault) (answer : Answer) → ProgramAnswer file said answer → TellsStatus answer
compared_tells file (Ok p) answer is = pair_tells p file (check_refusal p file) answer is
compared_tells file (Err e) answer is = refusal_tells _ answer is

compared_input_tells : (file : ProgramParts) (input : List ℕ) (answer : Answer) → ComparedAnswer file input answer → TellsStatus answer
compared_input_tells file input answer (inl long) = refusal_tells _ answer long.1
compared_input_tells file input answer (inr short) = compared_tells file (program_of input) answer short.1

-- and to what the file says
other_tells : (given : Given) (said : Result ProgramParts QasmFault) (answer : Answer) → OtherAnswer given said answer → TellsStatus answer
other_tells given (Ok file) answer is = compared_input_tells file given.input answer is
other_tells given (Err e) answer is = refusal_tells _ answer is

check_tells : (name : List ℕ) (given : Given) (answer : Answer) → Checks name given answer → TellsStatus answer
check_tells name given answer is = file_tells program_file (OtherBytesAnswer given) (given.files name) answer (λ bytes said. other_tells given (program_of bytes) answer said) is

-- ---- what is told

-- a command is done, or not
done_or_not : (s : Status) → (s ≡ status.Ok) ⊎ (s ≢ status.Ok)
done_or_not status.Ok = inl refl
done_or_not status.Memory = inr (λ e. cc)
done_or_not status.Usage = inr (λ e. cc)
done_or_not (status.Limit which) = inr (λ e. cc)
done_or_not (status.Qasm fault) = inr (λ e. cc)
done_or_not (status.RuleSyntax place) = inr (λ e. cc)
done_or_not (status.Unsound class member) = inr (λ e. cc)
done_or_not status.NoFile = inr (λ e. cc)
done_or_not status.ReadFault = inr (λ e. cc)
done_or_not status.WriteFault = inr (λ e. cc)
done_or_not status.ShelfFault = inr (λ e. cc)
done_or_not (status.Shapes input file) = inr (λ e. cc)
done_or_not (status.FileQasm fault) = inr (λ e. cc)

-- a report has some text
some_report_text : (report : Report) → report_text report ≢ []
unfolding report_text
some_report_text report e = cc

-- where there is no text, there is no report
pub no_report : (s : Status) (report : Option Report) → end_text s report ≡ [] → report ≡ None
no_report s None e = refl
no_report s (Some report) e = absurd (some_report_text report e)

-- limits and a seed have one text of the report
one_report_text : (b : Limits) (seed : ℕ) (x y : List ℕ) → IsReportText b seed x → IsReportText b seed y → x ≡ y
one_report_text b seed x y hx hy = hx.text_is ∙ ap report_text (report_same b seed hx.report hy.report hx.counts hy.counts) ∙ sym hy.text_is

-- a command that has no text where it is done has the text of the status
module _ (command : Command) (plain : (text : List ℕ) → text ≡ [] → TellsDone command text) where
  pub status_for_err : (s : Status) → IsForErr command s (status_text s)
  status_for_err s = record { done = λ e. plain (status_text s) (ap status_text e); not_done = λ _. refl }

-- and no other
for_err_is_status : (command : Command) (s : Status) (text : List ℕ) → (TellsDone command text → text ≡ []) → IsForErr command s text → text ≡ status_text s
for_err_is_status command s text plain ends = elim (done_or_not s) [ inl e ↦ plain (ends.done e) ∙ sym (ap status_text e) | inr n ↦ ends.not_done n ]

-- a generation that is done with a report has the report's text
pub report_told : (command : Command) (b : Limits) (workers seed : ℕ) (text : List ℕ) → command ≡ Generate b workers seed true → TellsDone command text → IsReportText b seed text
report_told command b workers seed text is told = subst (λ (c : Command). TellsDone c text) is told

-- a command that is done without a report has no text
pub plain_done : (command : Command) (text : List ℕ) → ((b : Limits) (workers seed : ℕ) → command ≢ Generate b workers seed true) → TellsDone command text → text ≡ []
plain_done (Generate b workers seed true) text none is = absurd (none b workers seed refl)
plain_done (Generate b workers seed false) text none is = is
plain_done Tidy text none is = is
plain_done (Optimise rules plan workers) text none is = is
plain_done (Trial seed q g) text none is = is
plain_done (Check other) text none is = is

-- the answers of a command have the text for the error stream that the command has
command_tells : (words : List (List ℕ)) (command : Command) (s : Status) (text : List ℕ) (given : Given) (answer : Answer) → IsForErr command s text → CommandAnswers words command given answer → answer.status ≡ s → answer.err ≡ text
command_tells words (Generate b workers seed true) s text given answer ends is same = one_report_text b seed answer.err text is.err (ends.done (sym same ∙ is.done))
command_tells words (Generate b workers seed false) s text given answer ends is same = is.err ∙ sym (ends.done (sym same ∙ is.done))
command_tells words (Trial seed qubits gates) s text given answer ends is same = is.err ∙ sym (ends.done (sym same ∙ is.done))
command_tells words Tidy s text given answer ends is same =
    subst TellsStatus (sym is) (input_tells _ given.input) ∙ ap status_text same ∙ sym (for_err_is_status Tidy s text (λ h. h) ends)
command_tells words (Optimise rules plan workers) s text given answer ends is same =
    optimisation_tells (slice_index_or words rules []) plan given answer is ∙ ap status_text same ∙ sym (for_err_is_status (Optimise rules plan workers) s text (λ h. h) ends)
command_tells words (Check other) s text given answer ends is same =
    check_tells (slice_index_or words other []) given answer is ∙ ap status_text same ∙ sym (for_err_is_status (Check other) s text (λ h. h) ends)

-- the answers to words that ask for a command
pub answer_tells : (words : List (List ℕ)) (command : Command) (s : Status) (text : List ℕ) → Ok command ≡ command_of words → IsForErr command s text → (given : Given) (answer : Answer) → WordsAnswer words given answer → answer.status ≡ s → answer.err ≡ text
answer_tells words command s text e ends given answer is same =
    command_tells words command s text given answer ends (subst (λ (r : Result Command WordFault). MatchResult r (λ k. CommandAnswers words k given answer) (λ refused. answer ≡ refused_with (status_of_words refused))) (sym e) is) same

-- the answer to words that are refused
pub refusal_told : (words : List (List ℕ)) (fault : WordFault) → Err fault ≡ command_of words → (given : Given) (answer : Answer) → WordsAnswer words given answer → answer.err ≡ status_text (status_of_words fault)
refusal_told words fault e given answer is =
    ap (λ (a : Answer). a.err) (subst (λ (r : Result Command WordFault). MatchResult r (λ k. CommandAnswers words k given answer) (λ refused. answer ≡ refused_with (status_of_words refused))) (sym e) is)
