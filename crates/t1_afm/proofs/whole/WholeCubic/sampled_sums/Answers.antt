use Rattle.std.proofs.Common.{arith, ◌+◌, ap, ◌∙◌}
use Rattle.std.specs.Int.{int_min, int_max}
use Rattle.t1_afm.proofs.Longs.{read_small}
use Rattle.t1_afm.proofs.Spans.{Spans-all}
use Rattle.t1_afm.proofs.Sampling.{IsNext, IsStart, cubic, sampling-start, sampling-next, sampling-read, summing-start, summing-next, summing-read, summed}
use Rattle.t1_afm.proofs.Wholes.{sum_in_size}
use Rattle.t1_afm.proofs.whole.WholeCubic.sampled_sums.Goals as goal

pub loop-k-init : goal.loop-k-init
loop-k-init c =
    let p = c.args.self.now in
    let s = c.start-sample.result in
    let e = c.start-sample.ensures in
    let is : IsStart p s = record { value = e.value; first = e.first; second = e.second; third = e.third } in
    let start = sampling-start p s is in
    let same = read_small s.value (omega (arith, start.long.value)) in
    let is_value = same ∙ start.sampled.value in
    record { sampling = rw same start; low = summing-start int_min p _ is_value; high = summing-start int_max p _ is_value }

pub loop-k-preserved : goal.loop-k-preserved
loop-k-preserved c =
    let p = c.args.self.now in
    let s = c.loop-k.sample in
    let t = c.next-sample.result in
    let h = c.loop-k.invariant in
    let e = c.next-sample.ensures in
    let is : IsNext s t = record { value = e.value; first = e.first; second = e.second; third = e.third } in
    let next = sampling-next p c.loop-k._k s t _ _ c.loop-k-test.true is h.sampling in
    let value = read_small t.value (omega (arith, next.long.value)) in
    let least = c.min-least.ensures.value ∙ ap (int_min _) value in
    let greatest = c.max-greatest.ensures.value ∙ ap (int_max _) value in
    record {
      sampling = sampling-read _ _ t _ _ c.min-least.result c.max-greatest.result least greatest next;
      low = summing-read int_min p (c.loop-k._k + 1) _ c.min-least.result least next.low (summing-next int_min p _ _ t.value c.loop-k-test.true next.sampled.value h.low);
      high = summing-read int_max p (c.loop-k._k + 1) _ c.max-greatest.result greatest next.high (summing-next int_max p _ _ t.value c.loop-k-test.true next.sampled.value h.high);
    }

pub returns : goal.returns
returns c =
    let p = c.args.self.now in
    let sampling = c.loop-k.invariant.sampling in
    record {
      least = summed int_min p c.loop-k._k _ c.loop-k-test.false c.loop-k.invariant.low;
      greatest = summed int_max p c.loop-k._k _ c.loop-k-test.false c.loop-k.invariant.high;
      least_range = sampling.low;
      greatest_range = sampling.high;
      span = Spans-all (cubic p) (c.loop-k._k + 1) _ _ (omega arith) sampling.spans;
      least_size = sum_in_size _ sampling.low;
      greatest_size = sum_in_size _ sampling.high;
    }
