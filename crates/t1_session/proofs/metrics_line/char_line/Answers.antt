use Rattle.std.proofs.Common.{ap, ◌++◌, ◌∙◌}
use Rattle.t1_code.specs.Parts.{slices_bytes}
use Rattle.t1_afm.specs.Afm.{rest_text}
use Rattle.t1_session.specs.RecordedLines.{after_width, before_width}
use Rattle.t1_session.proofs.MetricsLineLaws.{line_is}
use Rattle.t1_session.proofs.metrics_line.char_line.Goals as goal

pub returns : goal.returns
returns c =
    let g = c.args.glyph.now in
    let width = slices_bytes c.width_slices-width.result in
    let before = c.in_ok-push_code.ensures ∙ ap (λ t. t ++ before_width g.code) c.new-line.ensures.items in
    c.in_ok-push_name_and_box.ensures ∙ ap (λ t. t ++ rest_text (after_width g)) (c.in_ok-push_slices.ensures ∙ ap (λ t. t ++ width) before)
    ∙ line_is g width c.width_slices-width.ensures
