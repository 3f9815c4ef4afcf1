use Rattle.std.proofs.Common.{◌≡◌, ◌++◌, map}
use Rattle.std.specs.Prelude.{flat_map}
use Rattle.std.specs.List.{range_with_len}
use Rattle.t1_faults.specs.CodeForms.{entry_in_text}
use Rattle.t1_faults.specs.Found.{in_entry}
use Rattle.t1_faults.specs.GlyphRuns.{faults_kept_at}
use Rattle.t1_faults.proofs.met_at_words.push_subr_faults.Given as goal

-- the faults of the words so far
abbrev pub invariant-loop-word : goal.invariant-loop-word
invariant-loop-word l =
    l.found.items ≡ l.fn.found.items ++ map (in_entry (entry_in_text l.entry) l.placed) (flat_map (faults_kept_at l.in_subrs.entries l.subr) (range_with_len 0 l.word))
