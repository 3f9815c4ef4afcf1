-- The names of glyphs that reach far, one glyph more.
use Rattle.std.proofs.Common.{◌≡◌, ℕ, ◌||◌, ◌&&◌, List, ◌∷◌, sym, ◌∙◌, ap}
use Rattle.std.specs.Borrow.{Bor}
use Rattle.std.specs.Str.{bytes_eq}
use Rattle.std.proofs.Math.Bool.{or_assoc}
use Rattle.t1_font.specs.declared.glyph_metrics.GlyphMetrics.{GlyphMetrics}
use Rattle.t1_notes.specs.Tables.{is_among_names}
use Rattle.t1_measured_notes.specs.MeasuredNotes.{is_wide, is_wide_box}

-- the names so far and those of the glyphs that are left, after one more glyph
pub wide_kept : (old new : List (Bor (List ℕ))) (g : GlyphMetrics) (left rest glyphs : List GlyphMetrics) → left ≡ g ∷ rest
    → ((name : List ℕ) → is_among_names new name ≡ (is_among_names old name || (is_wide_box g.bbox && bytes_eq name g.name)))
    → ((name : List ℕ) → (is_among_names old name || is_wide left name) ≡ is_wide glyphs name)
    → (name : List ℕ) → (is_among_names new name || is_wide rest name) ≡ is_wide glyphs name
wide_kept old new g left rest glyphs e put so name =
    ap (λ b. b || is_wide rest name) (put name)
    ∙ or_assoc (is_among_names old name) (is_wide_box g.bbox && bytes_eq name g.name) (is_wide rest name)
    ∙ ap (λ gs. is_among_names old name || is_wide gs name) (sym e)
    ∙ so name
