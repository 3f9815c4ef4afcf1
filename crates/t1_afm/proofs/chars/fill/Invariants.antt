use Rattle.std.proofs.Common.{◌≡◌, ◌≤◌, take}
use Rattle.std.specs.Prelude.{flat_map}
use Rattle.t1_afm.specs.Afm.{char_line, line_text}
use Rattle.t1_afm.proofs.chars.fill.Given as goal

-- the lines so far
abbrev pub invariant-loop-glyph : goal.invariant-loop-glyph
invariant-loop-glyph l = record {
  count : l.count ≡ l.glyph-index;
  len : l.len ≤ 4096;
  lines : take l.len l.bytes ≡ flat_map (λ c. line_text (char_line c)) (take l.glyph-index l.chars);
}
