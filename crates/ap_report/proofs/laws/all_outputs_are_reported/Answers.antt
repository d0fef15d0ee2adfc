use Rattle.ap_report.proofs.QueryReports.{all_reported}
use Rattle.ap_report.proofs.laws.all_outputs_are_reported.Goals as goal

pub returns : goal.returns
returns c = all_reported
