use Rattle.t1_refusal.proofs.WordLaws.{word_ok, word_err}
use Rattle.t1_refusal.proofs.word.says.Goals as goal

pub returns-in-Ok : goal.returns-in-Ok
returns-in-Ok c = word_ok c.args.word.now c.clear.new.self.items _ c.of.result c.requires c.of.ensures c.in-Ok.ensures.value

pub returns-in-Err-Fault : goal.returns-in-Err-Fault
returns-in-Err-Fault c =
    word_err c.args.word.now c.clear.new.self.items c.of.result c.in-Err-Fault.field-0 c.in-Err-Fault._fault c.requires c.of.ensures c.in-Err-Fault.field-0-is c.in-Err-Fault.ensures.value
