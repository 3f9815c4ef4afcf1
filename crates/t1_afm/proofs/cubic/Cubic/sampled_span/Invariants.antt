use Rattle.t1_afm.specs.Points.{cubic_at}
use Rattle.t1_afm.specs.CubicValues.{cubic_values}
use Rattle.t1_afm.specs.Spans.{span_of}
use Rattle.t1_afm.proofs.Extremes.{AreExtremes}
use Rattle.t1_afm.proofs.cubic.Cubic.sampled_span.Given as goal

-- the values so far reach from the one to the other, and all have the denominator of the first
abbrev pub invariant-loop-k : goal.invariant-loop-k
invariant-loop-k l =
    let f = cubic_at l.self.start l.self.first l.self.second l.self.end in
    AreExtremes f (f 0).den l.k l.least l.greatest (span_of (cubic_values l.fn.self.start l.fn.self.first l.fn.self.second l.fn.self.end))
