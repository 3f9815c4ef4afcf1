use Rattle.std.proofs.Common.{◌≡◌, Ok, subst}
use Rattle.t1_parts.specs.Printing.{text}
use Rattle.t1_parts.specs.Reading.{reads}
use Rattle.t1_font.specs.SourceChecks.{source_check}
use Rattle.t1_session.specs.State.{SessionView}
use Rattle.t1_held.proofs.HeldLaws.{counts_checked}
use Rattle.t1_session.proofs.StateLaws.{held_checked}
use Rattle.t1_session.proofs.session.Session.reads_back.Goals as goal

pub returns-clause-source : goal.returns-clause-source
returns-clause-source c =
    let s = c.self.inside in
    subst (λ (v : SessionView). reads (text v.state.source) ≡ Ok v.state.source) c.self.view_is
    (c.text_of_source_read.ensures (counts_checked s.source (held_checked s.source s.held c.self.invariant.0)))

pub returns-clause-faultless : goal.returns-clause-faultless
returns-clause-faultless c =
    let s = c.self.inside in
    subst (λ (v : SessionView). source_check v.state.source ≡ Ok (tt {0})) c.self.view_is (held_checked s.source s.held c.self.invariant.0)
