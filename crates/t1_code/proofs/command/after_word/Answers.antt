use Rattle.t1_code.proofs.Scanning.{past_array}
use Rattle.t1_code.proofs.command.after_word.Goals as goal

pub returns : goal.returns
returns g c =
    past_array g.row.N c.args.word.now c.args.text.now c.in-Some.front.now c.in-Some.after.now c.is_same.result c.past_end.result c.told-word c.requires
    c.in-Some.ensures.cases.0 c.in-Some.ensures.cases.1 c.is_same.ensures c.if-not-is_same.false c.past_end.ensures
