use Rattle.std.proofs.Common.{arith}
use Rattle.t1_disassemble.proofs.NumberWords.{positive_read, negative_read, positive_number, negative_number}
use Rattle.t1_disassemble.proofs.known_number.short_number.Goals as goal

pub returns-then-first-lt251-clause-read : goal.returns-then-first-lt251-clause-read
returns-then-first-lt251-clause-read c =
    rw (c.from.ensures, c.from-then-first-lt251.ensures) (λ rest. positive_read c.args.first c.args.second rest (omega (arith, c.if-first-lt247.false)) c.if-first-lt251.true)

pub returns-then-first-lt251-clause-number : goal.returns-then-first-lt251-clause-number
returns-then-first-lt251-clause-number c =
    rw (c.from.ensures, c.from-then-first-lt251.ensures) (positive_number c.args.first c.args.second (omega (arith, c.if-first-lt251.true)) c.ranges.second.fits)

pub returns-then-first-lt255-clause-read : goal.returns-then-first-lt255-clause-read
returns-then-first-lt255-clause-read c =
    rw (c.from-then-first-lt255.ensures, c.from-then-first-lt255-2.ensures) (λ rest. negative_read c.args.first c.args.second rest (omega (arith, c.if-first-lt251.false)) c.if-first-lt255.true)

pub returns-then-first-lt255-clause-number : goal.returns-then-first-lt255-clause-number
returns-then-first-lt255-clause-number c =
    rw (c.from-then-first-lt255.ensures, c.from-then-first-lt255-2.ensures) (negative_number c.args.first c.args.second c.if-first-lt255.true c.ranges.second.fits)
