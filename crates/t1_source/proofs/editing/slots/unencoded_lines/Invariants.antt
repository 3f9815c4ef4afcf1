use Rattle.std.proofs.Common.{◌≡◌, ◌++◌, not, filter, length}
use Rattle.t1_source.specs.Editing.{is_slot_of}
use Rattle.t1_source.proofs.editing.slots.unencoded_lines.Given as goal

-- the lines so far, and those of the rest
abbrev pub invariant-loop-line : goal.invariant-loop-line
invariant-loop-line l = l.made.items ++ filter (λ x. not (is_slot_of l.code x)) l.rest ≡ filter (λ x. not (is_slot_of l.code x)) l.lines

abbrev pub decreases-loop-line : goal.decreases-loop-line
decreases-loop-line l = length l.rest
