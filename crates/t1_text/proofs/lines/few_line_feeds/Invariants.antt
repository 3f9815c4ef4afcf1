use Rattle.std.proofs.Common.{◌≡◌, ◌==◌, take}
use Rattle.std.specs.List.{count_by}
use Rattle.t1_frac.specs.Ascii.{line_feed}
use Rattle.t1_text.proofs.lines.few_line_feeds.Given as goal

-- the line feeds so far
abbrev pub invariant-loop-byte : goal.invariant-loop-byte
invariant-loop-byte l = l.feeds ≡ count_by (λ c. c == line_feed) (take l.byte-index l.text)
