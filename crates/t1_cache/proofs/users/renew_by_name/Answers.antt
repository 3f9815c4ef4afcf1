use Rattle.std.proofs.Common.{Vec, Global, ℕ, ◌∙◌, ap, length, map, sym}
use Rattle.t1_cache.specs.declared.records.NewRun.{NewRun}
use Rattle.t1_cache.specs.declared.records.Rerun.{Rerun}
use Rattle.t1_cache.specs.Renewed.{rerun_by_name, reruns_by_name, with_reruns, with_run}
use Rattle.t1_cache.specs.Recorded.{kept_of}
use Rattle.t1_font.proofs.Lookups.{none-found}
use Rattle.t1_cache.proofs.Rerunning.{all-renewed, last-by-name, last-rerun, none-by-name}
use Rattle.t1_cache.proofs.users.renew_by_name.Goals as goal

pub loop-name-preserved : goal.loop-name-preserved
loop-name-preserved c =
    let rest = c.pop.new.self.entries in
    let e : Vec ℕ Global × NewRun = (c.in-Some.name, c.in-Some.new) in
    let r : Rerun = rerun_by_name e in
    let reported = c.renew.ensures in
    let was = c.loop-name.invariant in
    let kept = map kept_of c.loop-name.glyphs.entries in
    record {
      records =
          ap (with_reruns (reruns_by_name rest)) (reported.records ∙ ap (λ g. with_run g r.run r.bbox kept) c.as_slice.ensures.value)
          ∙ last-rerun (reruns_by_name rest) r c.loop-name.glyphs.entries reported.once
          ∙ ap (λ l. with_reruns l kept) (sym (last-by-name rest e) ∙ sym (ap reruns_by_name c.in-Some.ensures.entries))
          ∙ was.records;
      users = λ p. reported.users p ∙ was.users p;
      bodies = λ p. reported.bodies p ∙ was.bodies p;
    }

pub returns-clause-records : goal.returns-clause-records
returns-clause-records c =
    sym (all-renewed (reruns_by_name c.loop-name.left.entries) (map kept_of c.loop-name.glyphs.entries)
    (none-by-name c.loop-name.left.entries (none-found c.pop.result (length c.loop-name.left.entries) c.in_default.is c.pop.ensures.found.1)))
    ∙ c.loop-name.invariant.records
