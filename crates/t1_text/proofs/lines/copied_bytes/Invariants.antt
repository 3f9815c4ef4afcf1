use Rattle.std.proofs.Common.{◌≡◌, take}
use Rattle.t1_text.proofs.lines.copied_bytes.Given as goal

-- the lines copied so far
abbrev pub invariant-loop-line : goal.invariant-loop-line
invariant-loop-line l = l.copies.items ≡ take l.line-index l.lines
