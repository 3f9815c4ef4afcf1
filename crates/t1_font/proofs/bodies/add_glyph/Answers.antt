use Rattle.std.proofs.Common.{◌∙◌, ap, sym, cond, None, Some}
use Rattle.std.specs.Option.{option_or}
use Rattle.std.specs.Str.{bytes_eq}
use Rattle.t1_frac.specs.declared.fault.Place.TheVariants.{Glyph}
use Rattle.t1_code.specs.Words.{commands}
use Rattle.indexmap.proofs.CallerLemmas.{insert_entry-new}
use Rattle.t1_font.specs.KeptBodies.{glyph_body_kept}
use Rattle.t1_font.proofs.Compiling.{lookup-last, none-there, reported-ok}
use Rattle.t1_font.proofs.bodies.add_glyph.Goals as goal

pub returns-clause-kept : goal.returns-clause-kept
returns-clause-kept c = λ g.
    let old = c.args.glyphs.now in
    let name = c.args.name.now in
    let key = c.in_ok-body_name.field-0 in
    let body = c.in_ok-body.body in
    let absent = none-there (glyph_body_kept old.entries name) (sym c.contains_key.ensures ∙ c.if-contains_key.false) in
    ap (λ es. glyph_body_kept es g) (c.in_ok-insert.ensures.entries ∙ insert_entry-new (λ x y. bytes_eq x.items y.items) old key body (rw c.in_ok-body_name.ensures absent))
    ∙ lookup-last (λ k. bytes_eq g k.items) old.entries key body
    ∙ ap (λ bytes. option_or (glyph_body_kept old.entries g) (cond (bytes_eq g bytes) (Some body) None)) c.in_ok-body_name.ensures
    ∙ ap (λ r. option_or (glyph_body_kept old.entries g) (cond (bytes_eq g name) r None)) (sym (reported-ok (Glyph name) (commands c.args.words.now) body c.in_ok-body.ensures))
