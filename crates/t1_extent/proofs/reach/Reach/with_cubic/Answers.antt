use Rattle.std.proofs.Common.{◌^◌, ap, ◌∙◌, arith}
use Rattle.std.specs.Int.{int_min, int_max}
use Rattle.t1_afm.proofs.Longs.{greatest_is_pick, least_is_pick}
use Rattle.t1_extent.proofs.Holding.{four_long, high_held, low_held}
use Rattle.t1_extent.proofs.Siding.{least_read, greatest_read}
use Rattle.t1_extent.proofs.reach.Reach.with_cubic.Goals as goal

pub numerator-low-requires : goal.numerator-low-requires
numerator-low-requires c =
    let found = four_long int_min least_is_pick c.args.cubic.now c.min-least_end.result c.min.result c.min-2.result c.min-least_end.ensures.value c.min.ensures.value c.min-2.ensures.value in
    rw found.same (found.bound)

pub numerator-high-requires : goal.numerator-high-requires
numerator-high-requires c =
    let found = four_long int_max greatest_is_pick c.args.cubic.now c.max-greatest_end.result c.max.result c.max-2.result c.max-greatest_end.ensures.value c.max.ensures.value c.max-2.ensures.value in
    rw found.same (found.bound)

pub returns-then-high-self-clause-low : goal.returns-then-high-self-clause-low
returns-then-high-self-clause-low c =
    let p = c.args.cubic.now in
    let found = four_long int_min least_is_pick p c.min-least_end.result c.min.result c.min-2.result c.min-least_end.ensures.value c.min.ensures.value c.min-2.ensures.value in
    low_held c.args.self.now.low c.numerator-low.result _ p.start p.first p.second p.end c.args.self.now.low_size c.numerator-low.ensures.size
    c.numerator-low.ensures.value found.same c.if-self-low.true

pub returns-then-high-self-clause-high : goal.returns-then-high-self-clause-high
returns-then-high-self-clause-high c =
    let p = c.args.cubic.now in
    let found = four_long int_max greatest_is_pick p c.max-greatest_end.result c.max.result c.max-2.result c.max-greatest_end.ensures.value c.max.ensures.value c.max-2.ensures.value in
    high_held c.args.self.now.high c.numerator-high.result _ p.start p.first p.second p.end c.args.self.now.high_size c.numerator-high.ensures.size
    c.numerator-high.ensures.value found.same c.if-high-self.true

pub invariant_of-result : goal.invariant_of-result
invariant_of-result c =
    let s = c.args.self.now in
    let v = c.cubic_reach-values.result in
    record {
      low_size = (least_read (2 ^ 38) c.min-3.result s.low v.low (omega arith) c.min-3.ensures.value s.low_size v.low_size).1;
      high_size = (greatest_read (2 ^ 38) c.max-3.result s.high v.high (omega arith) c.max-3.ensures.value s.high_size v.high_size).1;
    }

pub returns-clause-low : goal.returns-clause-low
returns-clause-low c =
    let s = c.args.self.now in
    let v = c.cubic_reach-values.result in
    (least_read (2 ^ 38) c.min-3.result s.low v.low (omega arith) c.min-3.ensures.value s.low_size v.low_size).0 ∙ ap (int_min s.low) c.cubic_reach-values.ensures.least

pub returns-clause-high : goal.returns-clause-high
returns-clause-high c =
    let s = c.args.self.now in
    let v = c.cubic_reach-values.result in
    (greatest_read (2 ^ 38) c.max-3.result s.high v.high (omega arith) c.max-3.ensures.value s.high_size v.high_size).0 ∙ ap (int_max s.high) c.cubic_reach-values.ensures.greatest
