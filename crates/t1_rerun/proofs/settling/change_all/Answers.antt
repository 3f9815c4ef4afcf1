use Rattle.std.proofs.Common.{◌∙◌, ap, arith, sym}
use Rattle.indexmap.specs.IndexMap.{spare}
use Rattle.t1_rerun.specs.Steps.{after_all, seen}
use Rattle.t1_rerun.proofs.Leaving.{taken-first}
use Rattle.t1_rerun.proofs.Preparing.{fewer-steps}
use Rattle.t1_rerun.proofs.Stepping.{after-last}
use Rattle.t1_rerun.proofs.settling.change_all.Goals as goal

pub loop-step-init : goal.loop-step-init
loop-step-init c =
    let gone = c.remove_glyphs.ensures in
    record {
      seen = taken-first c.args.steps.items c.args.taken.now.keys c.requires.taken c.args.records.now c.remove_glyphs.new.records gone.bodies gone.users gone.kept;
      subrs = omega (arith, c.requires.subrs, gone.room.0);
      glyphs = omega (arith, c.requires.glyphs, gone.room.1);
    }

pub loop-step-preserved : goal.loop-step-preserved
loop-step-preserved c =
    let was = c.loop-step.invariant in
    let rest = c.pop.new.self.items in
    let step = c.in-Some.step in
    let old = c.loop-step.records in
    let new = c.change_one.new.records in
    let items = c.in-Some.ensures.items in
    record {
      seen =
          ap (after_all rest) c.change_one.ensures.seen
          ∙ sym (after-last rest step (seen old))
          ∙ ap (λ l. after_all l (seen old)) (sym items)
          ∙ was.seen;
      subrs = fewer-steps c.loop-step.left.items rest step (spare old.subrs) (spare new.subrs) items c.change_one.ensures.room.0 was.subrs;
      glyphs = fewer-steps c.loop-step.left.items rest step (spare old.glyphs) (spare new.glyphs) items c.change_one.ensures.room.1 was.glyphs;
    }
