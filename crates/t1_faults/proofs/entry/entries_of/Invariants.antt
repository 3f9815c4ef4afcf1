use Rattle.std.proofs.Common.{◌≡◌, ◌<◌, ◌+◌, ◌^◌, ◌++◌, length, map}
use Rattle.t1_text.specs.Lines.{lines}
use Rattle.t1_faults.specs.Entries.{entries_from}
use Rattle.t1_faults.specs.CodeForms.{entry_in_text}
use Rattle.t1_faults.proofs.entry.entries_of.Given as goal

-- the entries so far, and those of the items and lines that are left
abbrev pub invariant-loop-item : goal.invariant-loop-item
invariant-loop-item l =
    (goal.iterator-loop-item).can_next l.item-iterator × (goal.iterator-loop-item).is_finite l.item-iterator
    × record {
      entries : map entry_in_text l.entries.items ++ entries_from l.first (lines l.rest) l.item-iterator ≡ entries_from l.number (lines l.bytes) l.items;
      fits : l.first + length (lines l.rest) < 2 ^ 64;
    }
