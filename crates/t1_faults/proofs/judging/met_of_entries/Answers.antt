use Rattle.std.proofs.Common.{◌≡◌, ◌∙◌, ℕ, List, map, ap, subst}
use Rattle.std.specs.Prelude.{IfOk}
use Rattle.t1_faults.specs.GlyphRuns.{faults_kept_at, own_kept, seen_run}
use Rattle.t1_faults.specs.Met.{faults_at, own_fault}
use Rattle.t1_faults.proofs.judging.met_of_entries.Goals as goal

pub returns-clause-own : goal.returns-clause-own
returns-clause-own c =
    subst (λ runs. IfOk c.met_faults.result (λ met. (g : List ℕ) → own_kept met.own.entries g ≡ own_fault runs g)) (ap (map seen_run) c.deref.ensures.value ∙ c.in_ok-failed.ensures) c.met_faults.ensures.own

pub returns-clause-in_subrs : goal.returns-clause-in_subrs
returns-clause-in_subrs c =
    subst (λ runs. IfOk c.met_faults.result (λ met. (n k : ℕ) → faults_kept_at met.in_subrs.entries n k ≡ faults_at runs n k)) (ap (map seen_run) c.deref.ensures.value ∙ c.in_ok-failed.ensures)
    c.met_faults.ensures.in_subrs
