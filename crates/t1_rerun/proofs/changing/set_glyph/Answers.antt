use Rattle.std.proofs.Common.{◌∙◌, ap, sym}
use Rattle.std.specs.Map.{lookup}
use Rattle.std.specs.Option.{option_copied}
use Rattle.std.specs.Str.{bytes_eq}
use Rattle.indexmap.proofs.CallerLemmas.{insert_entry-new}
use Rattle.t1_font.proofs.Compiling.{lookup-last, none-there}
use Rattle.t1_rerun.specs.Changing.{glyph_set}
use Rattle.t1_rerun.proofs.ChangedBodies.{copied-last}
use Rattle.t1_rerun.proofs.changing.set_glyph.Goals as goal

pub returns : goal.returns
returns c = λ g.
    let old = c.args.glyphs.now in
    let name = c.args.name in
    let absent = none-there (lookup (λ k. bytes_eq name.now k.now) old.entries) (sym c.contains_key.ensures ∙ c.if-contains_key.false) in
    ap (λ es. glyph_set es g) (c.in_ok-insert.ensures.entries ∙ insert_entry-new (λ x y. bytes_eq x.now y.now) old name c.args.body absent)
    ∙ ap option_copied (lookup-last (λ k. bytes_eq g k.now) old.entries name c.args.body)
    ∙ copied-last (lookup (λ k. bytes_eq g k.now) old.entries) (bytes_eq g name.now) c.args.body
