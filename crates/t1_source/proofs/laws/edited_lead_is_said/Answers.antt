use Rattle.t1_source.proofs.EditedLeadLaws.{edited_lead}
use Rattle.t1_source.proofs.laws.edited_lead_is_said.Goals as goal

pub returns : goal.returns
returns c = λ s made ps others n kept e. edited_lead s ps n made others kept e
