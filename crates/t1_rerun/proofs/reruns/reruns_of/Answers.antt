use Rattle.std.proofs.Common.{◌∙◌, ◌+◌, ap, cond, subst, sym, refl, None}
use Rattle.std.specs.Str.{bytes_eq}
use Rattle.t1_font.specs.Runs.{run_kept}
use Rattle.t1_cache.specs.declared.records.Rerun.{Rerun}
use Rattle.t1_rerun.specs.Renewals.{run_in}
use Rattle.t1_rerun.proofs.Taking.{has-run, taken-again, taken-more, AreTaken}
use Rattle.t1_rerun.proofs.reruns.reruns_of.Goals as goal

pub loop-glyph-preserved-in_default : goal.loop-glyph-preserved-in_default
loop-glyph-preserved-in_default c =
    let metrics = c.args.metrics.now in
    let at = c.loop-glyph.glyph-index in
    let m = c.glyph-item.result in
    let now = c.loop-glyph.runs in
    taken-again c.args.runs.now now c.taken.new.runs metrics at c.loop-glyph.reruns.items m c.loop-glyph-test.true c.glyph-item.is
    (has-run c.args.runs.now metrics at m c.requires c.loop-glyph-test.true c.glyph-item.is) c.loop-glyph.invariant
    (λ g. c.taken.ensures.others g ∙ ap (λ n. cond (bytes_eq n g) None (run_kept now g)) c.as_slice-text.ensures)
    (sym c.in_default.is ∙ c.taken.ensures.run ∙ ap (λ n. run_in (run_kept now n)) c.as_slice-text.ensures)

pub loop-glyph-preserved : goal.loop-glyph-preserved
loop-glyph-preserved c =
    let metrics = c.args.metrics.now in
    let at = c.loop-glyph.glyph-index in
    let m = c.glyph-item.result in
    let now = c.loop-glyph.runs in
    let r : Rerun = record { name = c.in_ok-name.name; run = c.in-Some.run'; bbox = m.bbox } in
    subst (AreTaken c.args.runs.now c.taken.new.runs metrics (at + 1)) (sym c.in_ok-push.ensures.items)
    (taken-more c.args.runs.now now c.taken.new.runs metrics at c.loop-glyph.reruns.items m c.loop-glyph-test.true c.glyph-item.is
    (has-run c.args.runs.now metrics at m c.requires c.loop-glyph-test.true c.glyph-item.is) c.loop-glyph.invariant
    (λ g. c.taken.ensures.others g ∙ ap (λ n. cond (bytes_eq n g) None (run_kept now g)) c.as_slice-text.ensures)
    r (c.in_ok-name.ensures.items ∙ c.as_slice-text.ensures) refl
    (sym c.in-Some.is ∙ c.taken.ensures.run ∙ ap (λ n. run_in (run_kept now n)) c.as_slice-text.ensures))
