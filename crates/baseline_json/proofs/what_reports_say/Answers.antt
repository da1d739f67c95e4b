use Rattle.baseline_json.proofs.ReportsSay as law
use Rattle.baseline_json.proofs.what_reports_say.Goals as goal

pub returns : goal.returns
returns c = law.what_reports_say
