-- The glyph whose own run fails.
use Rattle.std.specs.Prelude.{ℕ, zero, suc, List, Option, Some, None, option_map, option_and_then}
use Rattle.std.specs.Option.{option_or}
use Rattle.t1_run.specs.declared.outline.Composite.{Composite}
use Rattle.t1_run.specs.Run.{FontBodies, own}
use Rattle.t1_chain.specs.Failing.{failure_in}
use Rattle.t1_chain.specs.GlyphFailures.{GlyphFailure, parts_found}

-- profile, refusals: where the own run of a glyph of a font fails
abbrev pub failed : FontBodies → List ℕ → Option GlyphFailure
failed m g = option_and_then (λ body. option_map (λ failure. record { glyph = g; failure = failure }) (failure_in m body)) (m.glyphs g)

-- profile, order of faults: the base, then the accent
abbrev pub met_in_parts : (List ℕ → Option GlyphFailure) → Option Composite → Option GlyphFailure
met_in_parts part None = None
met_in_parts part (Some c) = option_or (part c.base) (part c.accent)

-- profile, order of faults: the first glyph whose own run fails, of a glyph and the parts that it stands on, which nest so deep
abbrev pub met_within : FontBodies → ℕ → List ℕ → Option GlyphFailure
met_within m zero g = failed m g
met_within m (suc depth) g = option_or (failed m g) (met_in_parts (met_within m depth) (parts_found (own m g)))
