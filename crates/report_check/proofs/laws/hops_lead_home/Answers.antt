use Rattle.report_check.proofs.Homeward.{leads_home}
use Rattle.report_check.proofs.laws.hops_lead_home.Goals as goal

pub returns : goal.returns
returns c = leads_home
