use Rattle.std.proofs.Common.{◌≤◌, ◌-◌, drop, length}
use Rattle.std.specs.Prelude.{flat_map}
use Rattle.t1_code.proofs.Writing.{passing, Written}
use Rattle.t1_afm.specs.Afm.{char_line, line_text}
use Rattle.t1_afm.proofs.chars.put_chars.Given as goal

-- the lines of the glyphs that are left
abbrev pub invariant-loop-at : goal.invariant-loop-at
invariant-loop-at g l = record {
  within : l.at ≤ length l.chars;
  written : Written (passing g.W.Write.contents) l.fn.outlet l.outlet
      (flat_map (λ c. line_text (char_line c)) l.chars) (flat_map (λ c. line_text (char_line c)) (drop l.at l.chars));
}

abbrev pub decreases-loop-at : goal.decreases-loop-at
decreases-loop-at g l = length l.chars - l.at
