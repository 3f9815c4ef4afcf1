use Rattle.std.proofs.Common.{◌∙◌, ap, arith, cond, map, subst, sym, None, Some}
use Rattle.std.specs.Prelude.{◌++◌, ◌∷◌, []}
use Rattle.std.proofs.lemmas.List.{take_all}
use Rattle.std.specs.Str.{bytes_eq}
use Rattle.t1_run.specs.Run.{Glyph}
use Rattle.t1_run.specs.RunKeys.{body_at}
use Rattle.t1_font.specs.KeptBodies.{glyph_body_kept}
use Rattle.t1_font.specs.Runs.{run_kept}
use Rattle.t1_cache.specs.Bodies.{record_bodies}
use Rattle.t1_cache.specs.Changed.{SetsBody}
use Rattle.t1_cache.specs.Renewed.{kept}
use Rattle.t1_cache.specs.Recorded.{kept_of}
use Rattle.t1_rerun.specs.Renewals.{run_in}
use Rattle.t1_rerun.proofs.Building.{all-built, body-there, glyph-apart, glyph-built, none-built, run-there}
use Rattle.t1_rerun.proofs.opening.insert_glyphs.Goals as goal

pub loop-glyph-init : goal.loop-glyph-init
loop-glyph-init c = none-built c.args.records.now c.args.bodies.now.entries c.args.runs.now c.args.metrics.now c.requires.none

pub loop-glyph-preserved-in_default : goal.loop-glyph-preserved-in_default
loop-glyph-preserved-in_default c =
    let left = c.loop-glyph.bodies.entries in
    absurd (
    body-there c.args.records.now c.args.bodies.now.entries left c.args.runs.now c.loop-glyph.runs c.args.metrics.now c.loop-glyph.glyph-index c.loop-glyph.records
    c.requires.distinct c.loop-glyph.invariant c.glyph-item.result c.loop-glyph-test.true c.glyph-item.is c.requires.bodies
    (sym c.in_default.is ∙ c.taken_body.ensures.body ∙ ap (glyph_body_kept left) c.as_slice-text.ensures))

pub loop-glyph-preserved-in_default-taken : goal.loop-glyph-preserved-in_default-taken
loop-glyph-preserved-in_default-taken c =
    let left = c.loop-glyph.runs in
    absurd (
    run-there c.args.records.now c.args.bodies.now.entries c.loop-glyph.bodies.entries c.args.runs.now left c.args.metrics.now c.loop-glyph.glyph-index c.loop-glyph.records
    c.requires.distinct c.loop-glyph.invariant c.glyph-item.result c.loop-glyph-test.true c.glyph-item.is c.requires.runs
    (sym c.in_default-taken.is ∙ c.taken.ensures.run ∙ ap (λ n. run_in (run_kept left n)) c.as_slice-text.ensures))

pub loop-glyph-preserved : goal.loop-glyph-preserved
loop-glyph-preserved c =
    let m = c.glyph-item.result in
    let bodies = c.loop-glyph.bodies.entries in
    let runs = c.loop-glyph.runs in
    let now = c.loop-glyph.records in
    let new = c.insert_glyph.new.records in
    let name = c.in_ok-name.ensures.items ∙ c.as_slice-text.ensures in
    let reported = c.in_ok-insert_glyph.ensures in
    glyph-built c.args.records.now c.args.bodies.now.entries bodies c.args.runs.now runs c.args.metrics.now c.loop-glyph.glyph-index now
    c.requires.distinct c.loop-glyph.invariant m c.loop-glyph-test.true c.glyph-item.is
    c.in-Some.body (sym c.in-Some.is ∙ c.taken_body.ensures.body ∙ ap (glyph_body_kept bodies) c.as_slice-text.ensures)
    c.in-Some-taken.run' (sym c.in-Some-taken.is ∙ c.taken.ensures.run ∙ ap (λ n. run_in (run_kept runs n)) c.as_slice-text.ensures)
    c.taken_body.new.bodies.entries (λ g. c.taken_body.ensures.others g ∙ ap (λ n. cond (bytes_eq n g) None (glyph_body_kept bodies g)) c.as_slice-text.ensures)
    c.taken.new.runs (λ g. c.taken.ensures.others g ∙ ap (λ n. cond (bytes_eq n g) None (run_kept runs g)) c.as_slice-text.ensures)
    new (subst (λ n. SetsBody (Glyph n) (Some c.in-Some.body) now new) name (rw c.in_ok-new.ensures at reported.bodies)) reported.users
    ((rw c.in_ok-new.ensures at reported.kept) ∙ ap (λ n. map kept_of now.glyphs.entries ++ kept n c.in-Some-taken.run' m.bbox ∷ []) name)

pub insert_glyph-requires-clause-none : goal.insert_glyph-requires-clause-none
insert_glyph-requires-clause-none c =
    ap (λ n. body_at (record_bodies c.loop-glyph.records) (Glyph n)) (c.in_ok-name.ensures.items ∙ c.as_slice-text.ensures)
    ∙ glyph-apart c.args.records.now c.args.bodies.now.entries c.loop-glyph.bodies.entries c.args.runs.now c.loop-glyph.runs c.args.metrics.now c.loop-glyph.glyph-index
    c.loop-glyph.records c.requires.distinct c.loop-glyph.invariant c.glyph-item.result c.loop-glyph-test.true c.glyph-item.is

pub returns-clause-glyphs : goal.returns-clause-glyphs
returns-clause-glyphs c =
    let ms = c.args.metrics.now in
    let at = c.loop-glyph.glyph-index in
    (all-built c.args.records.now c.args.bodies.now.entries c.loop-glyph.bodies.entries c.args.runs.now c.loop-glyph.runs ms at c.loop-glyph.records
    c.requires.bodies (take_all at ms (omega (arith, c.loop-glyph-test.false))) c.loop-glyph.invariant).0
