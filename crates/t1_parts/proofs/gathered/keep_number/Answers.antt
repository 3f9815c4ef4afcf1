use Rattle.t1_parts.proofs.KeyLaws.{more_numbers}
use Rattle.t1_parts.proofs.gathered.keep_number.Goals as goal

pub returns-in_ok-insert : goal.returns-in_ok-insert
returns-in_ok-insert c = λ items n. more_numbers c.args.subrs.now.keys _ items n _ _ _ c.args.item.now c.in-Subr.is c.in_ok-insert.ensures.keys
