use Rattle.std.proofs.Common.{Ok, ap, sym, ◌∙◌}
use Rattle.t1_session.specs.State.{SessionView}
use Rattle.t1_session.specs.Queries.{encoding_text}
use Rattle.t1_session.specs.FromScratch.{encoding_from_scratch}
use Rattle.t1_session.proofs.StateLaws.{asked_scratch, told_scratch}
use Rattle.t1_session.proofs.session.Session.show_encoding.Goals as goal

pub returns : goal.returns
returns c =
    let s = c.args.self.now.state in
    told_scratch c.encoding_text.result (encoding_from_scratch s) _ c.encoding_text.ensures
    (asked_scratch encoding_text s c.reads_back.ensures.source ∙ sym (ap (λ (v : SessionView). Ok (encoding_text v.state.source)) c.self.view_is))
