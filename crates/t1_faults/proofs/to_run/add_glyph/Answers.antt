use Rattle.std.proofs.Common.{◌∙◌, ap, sym, cond, None, Some}
use Rattle.std.specs.Option.{option_or}
use Rattle.std.specs.Str.{bytes_eq}
use Rattle.indexmap.proofs.CallerLemmas.{insert_entry-new}
use Rattle.t1_font.specs.KeptBodies.{glyph_body_kept}
use Rattle.t1_font.proofs.Compiling.{lookup-last, none-there}
use Rattle.t1_faults.proofs.to_run.add_glyph.Goals as goal

pub returns : goal.returns
returns c = λ g.
    let old = c.args.glyphs.now in
    let name = c.args.name.now in
    let key = c.in_ok-from_slice.field-0 in
    let body = c.in_ok-body.body in
    let absent = none-there (glyph_body_kept old.entries name) (sym c.contains_key.ensures ∙ c.if-contains_key.false) in
    ap (λ es. glyph_body_kept es g) (c.in_ok-insert.ensures.entries ∙ insert_entry-new (λ x y. bytes_eq x.items y.items) old key body (rw c.in_ok-from_slice.ensures.items absent))
    ∙ lookup-last (λ k. bytes_eq g k.items) old.entries key body
    ∙ ap (λ bytes. option_or (glyph_body_kept old.entries g) (cond (bytes_eq g bytes) (Some body) None)) c.in_ok-from_slice.ensures.items
    ∙ ap (λ r. option_or (glyph_body_kept old.entries g) (cond (bytes_eq g name) (Some r) None)) c.in_ok-body.ensures
