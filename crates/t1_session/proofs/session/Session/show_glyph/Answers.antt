use Rattle.std.proofs.Common.{Ok, ap, sym, ◌∙◌}
use Rattle.std.specs.Prelude.{option_map}
use Rattle.t1_session.specs.State.{SessionView}
use Rattle.t1_refusal.specs.Entries.{glyph_named}
use Rattle.t1_session.specs.Queries.{shown_entry, glyph_text}
use Rattle.t1_session.specs.FromScratch.{glyph_from_scratch}
use Rattle.t1_session.proofs.StateLaws.{asked_scratch, found_scratch}
use Rattle.t1_session.proofs.session.Session.show_glyph.Goals as goal

pub returns : goal.returns
returns c =
    let s = c.args.self.now.state in
    let name = c.args.name.now in
    let entry = c.glyph_named.ensures ∙ ap (glyph_named name) (c.items.ensures ∙ ap (λ (v : SessionView). v.state.source.items) c.self.view_is) in
    found_scratch c.entry_text.result (glyph_from_scratch name s) _ c.entry_text.ensures
    (asked_scratch (glyph_text name) s c.reads_back.ensures.source ∙ ap (λ found. Ok (option_map shown_entry found)) (sym entry))
