use Rattle.t1_faults.specs.GlyphRuns.{faults_kept_at, seen_run}
use Rattle.t1_faults.proofs.KeptLaws.{kept_more}
use Rattle.t1_faults.proofs.met.add_at.Goals as goal

pub returns : goal.returns
returns c = λ n k runs same.
    kept_more n k c.args.subr c.args.run.now.failure.word (seen_run c.args.run.now) runs (faults_kept_at c.args.met.now.entries) (faults_kept_at c.taken-faults.new.met.entries) (faults_kept_at c.keep.new.met.entries)
    c.taken-faults.result.items c.add_run.new.faults.items c.taken-faults.ensures.taken c.taken-faults.ensures.others c.in_ok-add_run.ensures c.in_ok-keep.ensures same
