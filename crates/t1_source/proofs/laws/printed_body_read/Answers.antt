use Rattle.t1_parts.proofs.BodyLaws.{printed_body}
use Rattle.t1_source.proofs.laws.printed_body_read.Goals as goal

pub returns : goal.returns
returns c = λ ws closing ls h t. printed_body ws closing ls h t
