use Rattle.std.proofs.Common.{◌∙◌, ap, sym, cond, None, Some}
use Rattle.std.specs.Option.{option_map, option_or}
use Rattle.std.specs.Str.{bytes_eq}
use Rattle.t1_frac.specs.declared.fault.Place.TheVariants as places
use Rattle.t1_code.specs.Words.{commands}
use Rattle.t1_run.specs.Run.{Glyph}
use Rattle.indexmap.proofs.CallerLemmas.{insert_entry-new}
use Rattle.t1_font.proofs.Compiling.{lookup-last, none-there, reported-ok}
use Rattle.t1_charstrings.specs.Entries.{encrypted, glyph_charstring}
use Rattle.t1_charstrings.proofs.Gathered.{glyph-there}
use Rattle.t1_charstrings.proofs.encrypted.add_glyph.Goals as goal

pub returns-clause-kept : goal.returns-clause-kept
returns-clause-kept c = λ g.
    let old = c.args.glyphs.now in
    let name = c.args.name.now in
    let key = c.in_ok-from_slice.field-0 in
    let body = c.in_ok-body.body in
    let entry = c.in_ok-entry.entry in
    let absent = none-there (glyph_charstring old.entries name) (sym c.contains_key.ensures ∙ c.if-contains_key.false) in
    ap (λ es. glyph_charstring es g) (c.in_ok-insert.ensures.entries ∙ insert_entry-new (λ x y. bytes_eq x.items y.items) old key entry (rw c.in_ok-from_slice.ensures.items absent))
    ∙ lookup-last (λ k. bytes_eq g k.items) old.entries key entry
    ∙ ap (λ bytes. option_or (glyph_charstring old.entries g) (cond (bytes_eq g bytes) (Some entry) None)) c.in_ok-from_slice.ensures.items
    ∙ ap (λ e. option_or (glyph_charstring old.entries g) (cond (bytes_eq g name) (Some e) None)) c.in_ok-entry.ensures
    ∙ ap (option_or (glyph_charstring old.entries g)) (glyph-there c.args.lead g name body)
    ∙ ap (λ r. option_or (glyph_charstring old.entries g) (option_map (encrypted c.args.lead (Glyph g)) (cond (bytes_eq g name) r None)))
    (sym (reported-ok (places.Glyph name) (commands c.args.words.now) body c.in_ok-body.ensures))
