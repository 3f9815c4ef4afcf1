use Rattle.std.proofs.Common.{◌≡◌, ◌≤◌, ℕ, List, length}
use Rattle.std.specs.Option.{option_or}
use Rattle.indexmap.specs.IndexMap.{spare}
use Rattle.t1_charstrings.specs.Entries.{glyph_charstring}
use Rattle.t1_charstrings.proofs.settling.put_glyphs.Given as goal

-- those that are left, over what is kept, and room for them
abbrev pub invariant-loop-name : goal.invariant-loop-name
invariant-loop-name l = record {
  glyphs : length l.fn.fresh.entries ≤ spare l.fn.charstrings.glyphs → (g : List ℕ)
      → option_or (glyph_charstring l.left.entries g) (glyph_charstring l.charstrings.glyphs.entries g) ≡ option_or (glyph_charstring l.fn.fresh.entries g) (glyph_charstring l.fn.charstrings.glyphs.entries g);
  room : length l.fn.fresh.entries ≤ spare l.fn.charstrings.glyphs → length l.left.entries ≤ spare l.charstrings.glyphs;
  subrs : l.charstrings.subrs ≡ l.fn.charstrings.subrs;
}

abbrev pub decreases-loop-name : goal.decreases-loop-name
decreases-loop-name l = length l.left.entries
