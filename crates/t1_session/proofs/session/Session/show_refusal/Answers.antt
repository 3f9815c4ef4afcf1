use Rattle.std.proofs.Common.{◌≡◌, map, subst}
use Rattle.std.specs.Prelude.{IfOk}
use Rattle.t1_cache.specs.Recorded.{kept_of}
use Rattle.t1_session.specs.Refusing.{refused_text}
use Rattle.t1_session.specs.State.{SessionView}
use Rattle.t1_session.proofs.session.Session.show_refusal.Goals as goal

pub returns-clause-shown : goal.returns-clause-shown
returns-clause-shown c =
    subst (λ (v : SessionView). IfOk c.refused_text-text.result (λ text. text.items ≡ refused_text v.state.source v.state.pairs v.state.refused)) c.self.view_is c.refused_text-text.ensures.shown

pub returns-clause-kept : goal.returns-clause-kept
returns-clause-kept c = subst (λ (v : SessionView). map kept_of c.refused_text-text.new.held.records.glyphs.entries ≡ v.kept) c.self.view_is c.refused_text-text.ensures.kept
