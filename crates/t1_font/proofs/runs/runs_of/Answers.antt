use Rattle.std.proofs.Common.{ap, cond, length, map, refl, sym, Some, add-one, ◌∙◌, List, ℕ, [], ◌+◌, ◌^◌, ◌-◌, min, subst, drop, get_or, arith}
use Rattle.std.specs.Borrow.{Bor}
use Rattle.std.specs.List.{list_any}
use Rattle.std.specs.Str.{bytes_eq}
use Rattle.t1_run.specs.Run.{font, own}
use Rattle.t1_font.specs.Runs.{drawing_in, run_kept, AreTraced, IsNumberedAfter}
use Rattle.t1_font.proofs.Keeping.{RunsInFront, one-more, one-traced, one-after, after-earlier, counts-one-more, name-first}
use Rattle.t1_font.proofs.runs.runs_of.Goals as goal
use Rattle.t1_frac.proofs.OutcomeLaws.{on_err}

pub loop-name-init : goal.loop-name-init
loop-name-init g c =
    let m = font (g.B.Bodies.subrs c.args.bodies.now) (g.B.Bodies.glyphs c.args.bodies.now) in
    record {
      kept = λ q. ap (λ runs. cond (list_any (bytes_eq q) (map (λ name. name.now) c.args.names.now)) (own m q) (drawing_in runs q)) c.new-runs.ensures;
      traced = subst AreTraced (sym c.new-runs.ensures) (λ q. tt);
      after = λ q. subst (λ runs. IsNumberedAfter c.args.meter.now (run_kept runs q)) (sym c.new-runs.ensures) tt;
      counted = refl;
    }

pub loop-name-preserved : goal.loop-name-preserved
loop-name-preserved g c =
    let m = font (g.B.Bodies.subrs c.args.bodies.now) (g.B.Bodies.glyphs c.args.bodies.now) in
    let names = c.args.names.now in
    let i = c.loop-name.name-index in
    let none : Bor (List ℕ) = record { ref_ptr = (0, 0); now = [] } in
    let rest =
    subst (λ (l : List (Bor (List ℕ))). RunsInFront m (map (λ name. name.now) l) c.loop-name.runs (map (λ name. name.now) names))
    (name-first names i none (omega arith)) c.loop-name.invariant.kept in
    record {
      kept = one-more m (map (λ name. name.now) (drop (i + 1) names)) c.loop-name.runs c.keep.new.self (map (λ name. name.now) names) (get_or names i none).now c.in_ok-kept.kept
          c.in_ok-kept.ensures.kept c.in_ok-keep.ensures rest;
      traced = one-traced c.loop-name.runs c.keep.new.self (get_or names i none).now c.in_ok-kept.kept c.in_ok-keep.ensures c.in_ok-kept.ensures.traced c.loop-name.invariant.traced;
      after = one-after c.args.meter.now c.loop-name.runs c.keep.new.self (get_or names i none).now c.in_ok-kept.kept c.in_ok-keep.ensures
          (after-earlier c.args.meter.now i c.in_ok-kept.kept (subst (λ count. IsNumberedAfter count (Some c.in_ok-kept.kept)) c.loop-name.invariant.counted c.in_ok-kept.ensures.after))
          c.loop-name.invariant.after;
      counted = rw add-one (c.kept_run.ensures.counted ∙ ap (λ n. min (n + 1) (2 ^ 64 - 1)) c.loop-name.invariant.counted);
    }

pub returns-in_err-kept-clause-want : goal.returns-in_err-kept-clause-want
returns-in_err-kept-clause-want g c =
    on_err c.from_residual.result (counts-one-more (length c.args.names.now) c.args.meter.now c.loop-name.name-index c.loop-name.meter c.kept_run.new.meter
    (omega arith) c.loop-name.invariant.counted c.kept_run.ensures.counted)

pub returns-in_err-keep-clause-want : goal.returns-in_err-keep-clause-want
returns-in_err-keep-clause-want g c =
    on_err c.from_residual-in_err-keep.result (counts-one-more (length c.args.names.now) c.args.meter.now c.loop-name.name-index c.loop-name.meter c.kept_run.new.meter
    (omega arith) c.loop-name.invariant.counted c.kept_run.ensures.counted)
