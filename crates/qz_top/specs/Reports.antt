-- The texts of reports, and what a command that ends has for the error stream.
use Rattle.std.specs.Prelude.{◌≡◌, ℕ, Bool, true, false, List, [], ◌++◌, codes, Option, Some, None}
use Rattle.std.specs.Fmt.{decimal}
use Rattle.qz_circ.specs.Circuit.{Limits}
use Rattle.qz_circ.specs.Lines.{line}
use Rattle.qz_circ.specs.declared.report.Report.{Report}
use Rattle.qz_repgen.specs.Reports.{IsReport}
use Rattle.qz_top.specs.declared.status.Status.{Status}
use Rattle.qz_top.specs.FaultTexts.{status_text}

-- five lines, each the name of a count and its number
unfoldable pub report_text : Report → List ℕ
report_text r =
    line (codes "extended " ++ decimal r.extended) ++
    line (codes "kept " ++ decimal r.kept) ++
    line (codes "classes " ++ decimal r.classes) ++
    line (codes "members " ++ decimal r.members) ++
    line (codes "prints " ++ decimal r.prints)

-- the text is that of the report of the limits and a seed
pub record IsReportText (b : Limits) (seed : ℕ) (text : List ℕ) : Type 0 where
  pub report : Report
  pub counts : IsReport b seed report
  pub text_is : text ≡ report_text report

-- such a text where a report is wanted, and else no text
abbrev pub IsReportWhere : Limits → ℕ → Bool → List ℕ → Type 0
IsReportWhere b seed true text = IsReportText b seed text
IsReportWhere b seed false text = text ≡ []

-- the text for the error stream: that of the report where there is one to tell, and else that of the status
abbrev pub end_text : Status → Option Report → List ℕ
end_text s (Some report) = report_text report
end_text s None = status_text s
