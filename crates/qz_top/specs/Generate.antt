-- The command that generates the rules of some limits.
use Rattle.std.specs.Prelude.{◌≡◌, ℕ, Bool, List, Option}
use Rattle.std.specs.Io.KnownBytes.{append_known}
use Rattle.qz_circ.specs.Circuit.{Limits}
use Rattle.qz_circ.specs.Classes.{IsClassList, HasEquivalentMembers}
use Rattle.qz_circ.specs.Joined.{JoinsEquivalent}
use Rattle.qz_circ.specs.declared.report.Report.{Report}
use Rattle.qz_repgen.specs.Reports.{IsReport}
use Rattle.qz_top.specs.declared.status.Status.TheVariants.{Ok}
use Rattle.qz_top.specs.Answer.{Answer}
use Rattle.qz_top.specs.Reports.{IsReportWhere}
use Rattle.qz_circ.specs.RuleText.{rule_text}

-- an answer of a generation within lawful limits: done, with the text of the rule file of a class list of the limits for the
-- output, and the text of the report for the error stream where it is wanted; the seed shows in the report alone
pub record Generates (b : Limits) (seed : ℕ) (report : Bool) (answer : Answer) : Type 0 where
  pub classes : List (List ℕ)
  pub class_list : IsClassList b classes
  pub done : answer.status ≡ Ok
  pub out : answer.out ≡ rule_text b classes
  pub err : IsReportWhere b seed report answer.err

-- the text is that of the class list of the limits, whose members are equivalent, and which joins any two circuits within
-- the limits that are equivalent
pub record IsCompleteRules (b : Limits) (text : List ℕ) : Type 0 where
  pub classes : List (List ℕ)
  pub class_list : IsClassList b classes
  pub text_is : text ≡ rule_text b classes
  pub equivalent : HasEquivalentMembers b classes
  pub joined : JoinsEquivalent b classes

-- the text is such a text, and the report is that of the limits and the seed
pub record AreMade (b : Limits) (seed : ℕ) (text : List ℕ) (report : Report) : Type 0 where
  pub rules : IsCompleteRules b text
  pub counts : IsReport b seed report

-- what the output tells has grown by such a text, whole
pub record WritesCompleteRules (b : Limits) (old new : Option (List ℕ)) : Type 0 where
  pub text : List ℕ
  pub rules : IsCompleteRules b text
  pub whole : new ≡ append_known old text
