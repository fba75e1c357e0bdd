-- The report of a generation, where it is wanted.
use Rattle.std.proofs.Common.{◌≡◌, ℕ, List, [], Bool, true, false, IsTrue, Option, Some, None, refl, ap}
use Rattle.std.specs.Prelude.{IfSome}
use Rattle.qz_circ.specs.Circuit.{Limits}
use Rattle.qz_circ.specs.declared.report.Report.{Report}
use Rattle.qz_repgen.specs.Reports.{IsReport}
use Rattle.qz_top.specs.declared.status.Status.{Status}
use Rattle.qz_top.specs.declared.status.Status.TheVariants as status
use Rattle.qz_top.specs.FaultTexts.{status_text}
use Rattle.qz_top.specs.Reports.{report_text, IsReportWhere, end_text}

-- there is such a text
pub wanted_text : (b : Limits) (seed : ℕ) (wanted : Bool) (report : Report) → IsReport b seed report → (text : List ℕ) × IsReportWhere b seed wanted text
wanted_text b seed true report is = (report_text report, record { report = report; counts = is; text_is = refl })
wanted_text b seed false report is = ([], refl)

-- and it is told
pub wanted_told : (b : Limits) (seed : ℕ) (wanted : Bool) (report : Report) (s : Status) (told : Option Report) → IsReport b seed report → s ≡ status.Ok →
    IfSome told (λ r. r ≡ report) → IfSome told (λ r. IsTrue wanted) → (told ≡ None → s ≡ status.Ok → IsTrue wanted → ⊥) → IsReportWhere b seed wanted (end_text s told)
wanted_told b seed true report s (Some r) is done own wanted none = record { report = report; counts = is; text_is = ap report_text own }
wanted_told b seed true report s None is done own wanted none = absurd (none refl done refl)
wanted_told b seed false report s (Some r) is done own wanted none = absurd cc
wanted_told b seed false report s None is done own wanted none = ap status_text done
