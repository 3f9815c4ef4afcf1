use Rattle.std.proofs.Common.{take, arith}
use Rattle.t1_disassemble.proofs.SmallNumbers.{put_two, put_three, put_four}
use Rattle.t1_disassemble.proofs.waiting.put_small.Goals as goal

pub returns-then-number-lt100-clause-front : goal.returns-then-number-lt100-clause-front
returns-then-number-lt100-clause-front c =
    put_two c.args.number (take c.args.len c.args.bytes.now) (take c.put_digit-one.result c.put_digit-one.new.bytes) (take c.put_digit-then-number-lt100.result c.put_digit-then-number-lt100.new.bytes)
    (omega arith) (omega arith) c.put_digit-one.ensures.front c.put_digit-then-number-lt100.ensures.front

pub returns-then-number-lt1000-clause-front : goal.returns-then-number-lt1000-clause-front
returns-then-number-lt1000-clause-front c =
    put_three c.args.number (take c.args.len c.args.bytes.now) (take c.put_digit-one-then-number-lt1000.result c.put_digit-one-then-number-lt1000.new.bytes) (take c.put_digit-two.result c.put_digit-two.new.bytes) (take c.put_digit-then-number-lt1000.result c.put_digit-then-number-lt1000.new.bytes)
    (omega arith) (omega arith) c.put_digit-one-then-number-lt1000.ensures.front c.put_digit-two.ensures.front c.put_digit-then-number-lt1000.ensures.front

pub returns-clause-front : goal.returns-clause-front
returns-clause-front c =
    put_four c.args.number (take c.args.len c.args.bytes.now) (take c.put_digit-one-2.result c.put_digit-one-2.new.bytes) (take c.put_digit-two-2.result c.put_digit-two-2.new.bytes) (take c.put_digit-three.result c.put_digit-three.new.bytes) (take c.put_digit-2.result c.put_digit-2.new.bytes)
    (omega arith) (omega arith) c.put_digit-one-2.ensures.front c.put_digit-two-2.ensures.front c.put_digit-three.ensures.front c.put_digit-2.ensures.front
