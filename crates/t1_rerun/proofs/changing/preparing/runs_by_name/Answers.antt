use Rattle.std.proofs.Common.{Vec, Global, ℕ, ◌∙◌, ap, sym}
use Rattle.std.specs.Map.{lookup}
use Rattle.std.specs.Option.{option_or}
use Rattle.std.specs.Str.{bytes_eq}
use Rattle.t1_font.proofs.Lookups.{bytes_tell, inserted-at}
use Rattle.t1_cache.specs.declared.records.NewRun.{NewRun}
use Rattle.t1_cache.specs.Renewed.{reruns_by_name}
use Rattle.t1_rerun.specs.Steps.{new_run}
use Rattle.t1_rerun.proofs.Preparing.{run-moved}
use Rattle.t1_rerun.proofs.changing.preparing.runs_by_name.Goals as goal

pub loop-rerun-preserved : goal.loop-rerun-preserved
loop-rerun-preserved c = λ g.
    let r = c.in-Some.rerun in
    let rest = c.pop.new.self.items in
    let old = c.loop-rerun.runs.entries in
    let new = c.insert.new.self.entries in
    let run : NewRun = record { run = r.run; bbox = r.bbox } in
    run-moved rest r old new g
    (ap (λ es. lookup (λ (k : Vec ℕ Global). bytes_eq g k.items) es) c.in_ok-insert.ensures.entries ∙ inserted-at bytes_eq bytes_tell (λ k. k.items) g r.name run old)
    ∙ ap (λ l. option_or (new_run l g) (new_run (reruns_by_name old) g)) (sym c.in-Some.ensures.items)
    ∙ c.loop-rerun.invariant g
