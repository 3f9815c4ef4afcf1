use Rattle.std.proofs.Common.{ap, ◌∙◌}
use Rattle.t1_afm.specs.declared.span.Span.{Span}
use Rattle.t1_afm.specs.Spans.{span_around, span_around_one}
use Rattle.t1_afm.proofs.Held.{around_two}
use Rattle.t1_afm.proofs.span.Line.span_with.Goals as goal

pub returns : goal.returns
returns c =
    c.with-2.ensures
    ∙ ap (λ (s : Span). span_around s (span_around_one c.args.self.now.end)) c.with.ensures
    ∙ around_two c.args.other.now (span_around_one c.args.self.now.start) (span_around_one c.args.self.now.end)
