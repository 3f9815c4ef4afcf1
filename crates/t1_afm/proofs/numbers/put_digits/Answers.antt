use Rattle.std.specs.Fmt.{decimal}
use Rattle.t1_afm.proofs.Digits.{digits_put}
use Rattle.t1_afm.proofs.numbers.put_digits.Goals as goal

pub returns-clause-front : goal.returns-clause-front
returns-clause-front c =
    digits_put c.args.bytes.now c.write_digits.new.buf (decimal c.args.number) c.args.place c.args.count c.write_digits.result
    c.write_digits.ensures.start c.requires.all c.write_digits.ensures.written c.write_digits.ensures.before
