use Rattle.std.proofs.Common.{◌≡◌, false, rules, subst, sym}
use Rattle.std.specs.Prelude.{is_some}
use Rattle.t1_source.specs.declared.editing.hint.Hint.TheVariants as hints
use Rattle.t1_source.specs.Hints.{IsTrueOfEdit}
use Rattle.t1_cache.specs.Bodies.{glyph_body}
use Rattle.t1_held.proofs.HintLaws.{glyph_is_new}
use Rattle.t1_held.proofs.hints.hint_of.Goals as goal

pub returns-then-not-has_glyph : goal.returns-then-not-has_glyph
returns-then-not-has_glyph c s held =
    let absent : is_some (glyph_body c.args.held.now.records.glyphs.entries c.in-AddGlyph.name) ≡ false = search rules in
    subst (λ e. IsTrueOfEdit hints.NewGlyph e s) (sym c.in-AddGlyph.is) (glyph_is_new s c.args.held.now.records c.in-AddGlyph.name held.right absent)
