-- Names that are kept beside glyphs, and their codes.
use Rattle.std.specs.Prelude.{◌≡◌, ℕ, Bool, List, Option, None, codes, if◌then◌else◌}
use Rattle.std.specs.Map.{lookup}
use Rattle.std.specs.Borrow.{Bor}
use Rattle.std.specs.List.{list_any}
use Rattle.std.specs.Str.{bytes_eq}
use Rattle.t1_font.specs.declared.glyph_metrics.GlyphMetrics.{GlyphMetrics}
use Rattle.t1_font.specs.Metrics.{has_metrics}

-- word: whether a name is among those kept
abbrev pub is_name_kept : List (Bor (List ℕ)) → List ℕ → Bool
is_name_kept names g = list_any (λ key. bytes_eq g key.now) names

-- word: the names are those of the glyphs
abbrev pub AreNamesOf : List (Bor (List ℕ)) → List GlyphMetrics → Type 0
AreNamesOf names metrics = (g : List ℕ) → is_name_kept names g ≡ has_metrics metrics g

-- word: the code that is kept for a name
abbrev pub code_kept : List (Bor (List ℕ) × ℕ) → List ℕ → Option ℕ
code_kept entries g = lookup (λ key. bytes_eq g key.now) entries

-- word: the code of a glyph; none for .notdef
abbrev pub code_among : List (Bor (List ℕ) × ℕ) → List ℕ → Option ℕ
code_among entries g = if bytes_eq g (codes ".notdef") then None else code_kept entries g
