use Rattle.t1_chain.proofs.LeadingLaws.{calls_lead}
use Rattle.t1_chain.proofs.laws.calls_lead_there.Goals as goal

pub returns : goal.returns
returns c = calls_lead
