use Rattle.std.proofs.Common.{take, rules}
use Rattle.std.specs.Fmt.{signed_decimal}
use Rattle.t1_disassemble.proofs.Reading.{kept_number, number_is_word}
use Rattle.t1_disassemble.proofs.charstring.put_number_word.Goals as goal

pub returns-clause-front : goal.returns-clause-front
returns-clause-front c =
    kept_number (take c.args.len c.args.bytes.now) (take c.put_blank-at.result c.put_blank-at.new.bytes) (take c.put_number.result c.put_number.new.bytes)
    (signed_decimal c.args.number) c.args.is_open c.put_blank-at.ensures.front (search rules)
    (number_is_word c.args.number c.ranges.number)
