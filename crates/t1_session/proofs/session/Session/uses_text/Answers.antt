use Rattle.std.proofs.Common.{ap, ◌∙◌, Ok, sym}
use Rattle.t1_font.specs.Usage.{usage_table}
use Rattle.t1_session.proofs.StateLaws.{uses_scratch, uses_shown}
use Rattle.t1_session.proofs.session.Session.uses_text.Goals as goal

pub returns : goal.returns
returns c =
    let font = c.in_ok-glyphs.glyphs in
    let s = c.args.self.now.state in
    let known = uses_scratch s font c.in_ok-glyphs.ensures c.reads_back.ensures.source c.reads_back.ensures.pairs
    ∙ ap (λ metrics. Ok (usage_table metrics)) (sym c.metrics.ensures) in
    uses_shown c.usage_text.result s _ c.usage_text.ensures known
