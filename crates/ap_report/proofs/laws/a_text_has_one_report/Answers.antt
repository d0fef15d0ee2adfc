use Rattle.ap_report.proofs.Texts.{report_one}
use Rattle.ap_report.proofs.laws.a_text_has_one_report.Goals as goal

pub returns : goal.returns
returns c = report_one
