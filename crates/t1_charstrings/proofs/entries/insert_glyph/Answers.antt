use Rattle.std.proofs.Common.{◌≡◌, ◌∙◌, ap, cond, refl, Some}
use Rattle.std.specs.Str.{bytes_eq}
use Rattle.t1_run.specs.Run.{Glyph}
use Rattle.t1_run.specs.RunKeys.{key_eq}
use Rattle.t1_charstrings.specs.declared.entries.Charstrings.{Charstrings}
use Rattle.t1_charstrings.specs.Entries.{glyph_charstring}
use Rattle.t1_charstrings.specs.Kept.{charstring_at}
use Rattle.t1_font.proofs.Keys.{at-key}
use Rattle.t1_font.proofs.Lookups.{bytes_tell, inserted-at}
use Rattle.t1_charstrings.proofs.entries.insert_glyph.Goals as goal

pub returns-clause-sets : goal.returns-clause-sets
returns-clause-sets c =
    let old : Charstrings = c.args.charstrings.now in
    let new : Charstrings = record c.args.charstrings.now { glyphs = c.insert.new.self } in
    at-key (λ k. charstring_at new k ≡ cond (key_eq k (Glyph c.args.name.items)) (Some c.args.entry) (charstring_at old k))
    (λ n. refl)
    (λ g.
    ap (λ es. glyph_charstring es g) c.in_ok-insert.ensures.entries
    ∙ inserted-at bytes_eq bytes_tell (λ k. k.items) g c.args.name c.args.entry old.glyphs.entries)
