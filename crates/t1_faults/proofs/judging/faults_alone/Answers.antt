use Rattle.std.proofs.Common.{map}
use Rattle.t1_font.specs.Runs.{drawing_in}
use Rattle.t1_faults.specs.CodeForms.{entry_in_text}
use Rattle.t1_faults.specs.GlyphRuns.{failures_of, faults_kept_at, own_kept}
use Rattle.t1_faults.specs.Met.{failed_runs}
use Rattle.t1_faults.proofs.JudgingLaws.{found_by}
use Rattle.t1_faults.proofs.judging.faults_alone.Goals as goal

pub returns : goal.returns
returns c =
    let entries = map entry_in_text c.args.entries.now in
    found_by (drawing_in c.args.runs.now.runs) (failed_runs (failures_of c.args.runs.now) entries) (own_kept c.in_ok-met.met.own.entries) (faults_kept_at c.in_ok-met.met.in_subrs.entries) c.args.source.now entries
    c.new-found.result.items c.push_own_faults.new.found.items c.push_file_fault.new.found.items c.push_join_faults.new.found.items
    c.in_ok-met.ensures.own c.in_ok-met.ensures.in_subrs c.new-found.ensures.items c.in_ok-push_own_faults.ensures c.in_ok-push_file_fault.ensures c.in_ok-push_join_faults.ensures
