use Rattle.std.proofs.Common.{◌≡◌, ◌==◌, ◌+◌, ◌≤◌, length}
use Rattle.std.specs.List.{count_by}
use Rattle.t1_frac.specs.Ascii.{line_feed}
use Rattle.t1_text.proofs.lines.line_feeds.Given as goal

-- the line feeds counted so far, and those of the rest
abbrev pub invariant-loop-rest : goal.invariant-loop-rest
invariant-loop-rest l = (l.count + count_by (λ c. c == line_feed) l.rest ≡ count_by (λ c. c == line_feed) l.text) × (l.count + length l.rest ≤ length l.text)

abbrev pub decreases-loop-rest : goal.decreases-loop-rest
decreases-loop-rest l = length l.rest
