use Rattle.std.proofs.Common.{sym}
use Rattle.std.specs.List.{filter}
use Rattle.t1_faults.specs.GlyphRuns.{faults_kept_at, seen_run}
use Rattle.t1_faults.specs.Met.{fails_at_word}
use Rattle.t1_faults.proofs.KeptLaws.{in_no_subr, in_subr_more}
use Rattle.t1_faults.proofs.met.add_in_subr.Goals as goal

pub returns-in_default : goal.returns-in_default
returns-in_default c = λ n k runs same. in_no_subr n k (seen_run c.args.run.now) runs (faults_kept_at c.args.met.now.entries n k) (sym c.in_default.ensures) same

pub returns : goal.returns
returns c = λ n k runs same.
    in_subr_more n k c.in-Some.subr (seen_run c.args.run.now) runs (faults_kept_at c.add_at.new.met.entries n k) (sym c.in-Some.ensures)
    (c.in_ok-add_at.ensures n k (filter (fails_at_word n k) runs) same)
