use Rattle.std.proofs.Common.{Ok, ap, sym, ◌∙◌}
use Rattle.std.proofs.lemmas.Int.{to_z-of_z}
use mir.Syntax.{w64}
use Rattle.std.specs.Prelude.{option_map}
use Rattle.t1_session.specs.State.{SessionView}
use Rattle.t1_session.specs.Queries.{shown_entry, subr_numbered, subr_text}
use Rattle.t1_session.specs.FromScratch.{subr_from_scratch}
use Rattle.t1_session.proofs.StateLaws.{asked_scratch, found_scratch}
use Rattle.t1_session.proofs.session.Session.show_subr.Goals as goal

pub returns : goal.returns
returns c =
    let s = c.args.self.now.state in
    let number = c.args.number in
    let read = ap (λ n. subr_numbered n c.items.result.now) (to_z-of_z w64 number c.ranges.number) in
    let entry = c.subr_numbered.ensures ∙ read ∙ ap (subr_numbered number) (c.items.ensures ∙ ap (λ (v : SessionView). v.state.source.items) c.self.view_is) in
    found_scratch c.entry_text.result (subr_from_scratch number s) _ c.entry_text.ensures
    (asked_scratch (subr_text number) s c.reads_back.ensures.source ∙ ap (λ found. Ok (option_map shown_entry found)) (sym entry))
