use Rattle.std.proofs.Common.{◌∙◌, ◌++◌, ap, map}
use Rattle.t1_faults.specs.CodeForms.{entry_in_text}
use Rattle.t1_faults.specs.Found.{in_entry}
use Rattle.t1_faults.specs.GlyphRuns.{faults_kept_at}
use Rattle.t1_faults.proofs.KeptLaws.{words_pushed}
use Rattle.t1_faults.proofs.met_at_words.push_subr_faults.Goals as goal

pub loop-word-preserved : goal.loop-word-preserved
loop-word-preserved c =
    words_pushed (in_entry (entry_in_text c.args.entry.now) c.args.placed.now) (faults_kept_at c.args.in_subrs.now.entries c.args.subr) c.loop-word.word c.args.found.now.items
    c.loop-word.found.items c.push_faults_in.new.found.items c.met_at.result.now c.loop-word.invariant c.met_at.ensures c.in_ok-push_faults_in.ensures
