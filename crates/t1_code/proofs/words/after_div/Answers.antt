use Rattle.t1_code.proofs.Scanning.{past_div}
use Rattle.t1_code.proofs.words.after_div.Goals as goal

pub returns : goal.returns
returns c = past_div c.args.rest.now c.in-Some.after.now c.requires c.in-Some.ensures.0 c.in-Some.ensures.1
