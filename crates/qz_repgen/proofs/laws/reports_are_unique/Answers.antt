use Rattle.qz_repgen.proofs.ReportLaws.{report_same}
use Rattle.qz_repgen.proofs.laws.reports_are_unique.Goals as goal

pub returns : goal.returns
returns c = report_same
