-- The outline of a glyph as it is shown.
use Rattle.std.specs.Prelude.{ℕ, List, Option, Some, None, is_some, Result, Ok, if◌then◌else◌}
use Rattle.t1_frac.specs.declared.fault.Fault.{Fault}
use Rattle.t1_frac.specs.declared.fault.Place.TheVariants as places
use Rattle.t1_frac.specs.Outcome.{reported_at, ◌>>=◌}
use Rattle.t1_parts.specs.SourceParts.{SourceParts}
use Rattle.t1_run.specs.Composite.{outline}
use Rattle.t1_run.specs.Run.{FontBodies}
use Rattle.t1_font.specs.Bodies.{bodies}
use Rattle.t1_font.specs.SourceChecks.{source_check}
use Rattle.t1_outline.specs.Text.{outline_text}

-- profile, outlines: the text of a glyph's outline with its parts, or the outline's first fault, at the glyph; none where the
-- font has no such glyph
unfoldable pub glyph_outline : FontBodies → List ℕ → Result (Option (List ℕ)) Fault
glyph_outline m name =
    if is_some (m.glyphs name) then
    (reported_at (places.Glyph name) (outline m name) >>= λ segments. Ok (Some (outline_text segments)))
    else
    Ok None

-- profile, outlines: the same for a glyph of a source, or the source's first fault
unfoldable pub source_outline : SourceParts → List ℕ → Result (Option (List ℕ)) Fault
source_outline source name = source_check source >>= λ checked. glyph_outline (bodies source.items) name
