use Rattle.std.proofs.Common.{◌≡◌, ◌≤◌, ℕ, length}
use Rattle.std.specs.Option.{option_or}
use Rattle.indexmap.specs.IndexMap.{spare}
use Rattle.t1_charstrings.specs.Entries.{subr_charstring}
use Rattle.t1_charstrings.proofs.settling.put_subrs.Given as goal

-- those that are left, over what is kept, and room for them
abbrev pub invariant-loop-number : goal.invariant-loop-number
invariant-loop-number l = record {
  subrs : length l.fn.fresh.entries ≤ spare l.fn.charstrings.subrs → (n : ℕ)
      → option_or (subr_charstring l.left.entries n) (subr_charstring l.charstrings.subrs.entries n) ≡ option_or (subr_charstring l.fn.fresh.entries n) (subr_charstring l.fn.charstrings.subrs.entries n);
  room : length l.fn.fresh.entries ≤ spare l.fn.charstrings.subrs → length l.left.entries ≤ spare l.charstrings.subrs;
  glyphs : l.charstrings.glyphs ≡ l.fn.charstrings.glyphs;
}

abbrev pub decreases-loop-number : goal.decreases-loop-number
decreases-loop-number l = length l.left.entries
