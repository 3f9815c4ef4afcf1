use Rattle.std.proofs.Common.{◌≡◌, ◌≤◌, if◌then◌else◌, None, take}
use Rattle.indexmap.specs.IndexMap.{spare}
use Rattle.t1_run.specs.Run.{Key}
use Rattle.t1_charstrings.specs.Batch.{is_gone}
use Rattle.t1_charstrings.specs.Kept.{charstring_at}
use Rattle.t1_charstrings.proofs.settling.take_out.Given as goal

-- those so far are taken out
abbrev pub invariant-loop-entry : goal.invariant-loop-entry
invariant-loop-entry l = record {
  kept : (k : Key) → charstring_at l.charstrings k ≡ (if is_gone (take l.entry-index l.gone) k then None else charstring_at l.fn.charstrings k);
  subrs : spare l.fn.charstrings.subrs ≤ spare l.charstrings.subrs;
  glyphs : spare l.fn.charstrings.glyphs ≤ spare l.charstrings.glyphs;
}
