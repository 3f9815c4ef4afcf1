use Rattle.std.proofs.Common.{◌≡◌, take}
use Rattle.t1_font.specs.Usage.{usage_table}
use Rattle.t1_font.proofs.usage.usage_text.Given as goal

-- the lines of the glyphs so far
abbrev pub invariant-loop-glyph : goal.invariant-loop-glyph
invariant-loop-glyph l = l.text.items ≡ usage_table (take l.glyph-index l.glyphs)
