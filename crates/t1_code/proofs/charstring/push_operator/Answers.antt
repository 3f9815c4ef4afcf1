use Rattle.t1_code.proofs.Adding.{added_front, added_value}
use Rattle.t1_code.proofs.charstring.push_operator.Goals as goal

pub returns-clause-front : goal.returns-clause-front
returns-clause-front c =
    added_front c.extend_from_slice.result c.args.code.now.items c.args.operator.now c.extend_from_slice.new.self.items c.extend_from_slice.ensures.items

pub returns-clause-value : goal.returns-clause-value
returns-clause-value c =
    added_value c.extend_from_slice.result c.args.code.now.items c.args.operator.now c.extend_from_slice.new.self.items c.extend_from_slice.ensures.items
