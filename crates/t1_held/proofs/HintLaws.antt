-- What is known of an entry by what is held of a source.
use Rattle.std.proofs.Common.{◌≡◌, ◌||◌, false, List, ℕ, [], ◌∷◌, refl, sym, ap, ◌∙◌}
use Rattle.std.specs.List.{list_any}
use Rattle.std.specs.Prelude.{is_some}
use Rattle.std.specs.Str.{bytes_eq}
use Rattle.t1_parts.specs.declared.item.Item.{Item}
use Rattle.t1_parts.specs.declared.item.Item.TheVariants.{Plain, Section, Subr, Glyph}
use Rattle.t1_parts.specs.Entries.{is_glyph}
use Rattle.t1_parts.specs.SourceParts.{SourceParts}
use Rattle.t1_run.specs.Run.{Glyph as GlyphKey}
use Rattle.t1_font.specs.Glyphs.{glyph_names}
use Rattle.t1_cache.specs.Bodies.{glyph_body}
use Rattle.t1_cache.specs.declared.records.Records.{Records}
use Rattle.t1_rerun.specs.Right.{IsRight}
use Rattle.t1_rerun.proofs.Settled.{has-body}

glyph-named : (g : List ℕ) (items : List Item) → list_any (is_glyph g) items ≡ list_any (bytes_eq g) (glyph_names items)
glyph-named g [] = refl
glyph-named g (Plain l ∷ items) = glyph-named g items
glyph-named g (Section before n after ∷ items) = glyph-named g items
glyph-named g (Subr n ws closing ∷ items) = glyph-named g items
glyph-named g (Glyph h ws closing ∷ items) = ap (λ there. bytes_eq g h || there) (glyph-named g items)

-- a glyph that has no record is new
pub glyph_is_new : (s : SourceParts) (records : Records) (g : List ℕ) → IsRight s records → is_some (glyph_body records.glyphs.entries g) ≡ false
    → list_any (is_glyph g) s.items ≡ false
glyph_is_new s records g right absent =
    glyph-named g s.items
    ∙ has-body s right.kept.glyphs right.kept.faultless g
    ∙ ap is_some (sym (right.compiled (GlyphKey g)))
    ∙ absent
