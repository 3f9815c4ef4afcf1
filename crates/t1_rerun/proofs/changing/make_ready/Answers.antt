use Rattle.std.proofs.Common.{◌∙◌, None, ap, arith, cond, refl, subst, sym}
use Rattle.t1_cache.specs.Room.{MayJoin}
use Rattle.t1_cache.specs.Users.{users_at, pairs_of_key}
use Rattle.t1_rerun.specs.Steps.{new_run, some_inserts, AreStepsOf, AreTakenOut}
use Rattle.t1_rerun.proofs.Preparing.{as-unchanged, users-same}
use Rattle.t1_rerun.proofs.Steps.{as-rest}
use Rattle.t1_rerun.proofs.changing.make_ready.Goals as goal

pub returns-in_err-make_room-clause-same : goal.returns-in_err-make_room-clause-same
returns-in_err-make_room-clause-same c = as-rest c.args.records.now c.make_room.new.records c.make_room.ensures.rest c.make_room.ensures.users

pub returns-in_err-reserve_entries-clause-same : goal.returns-in_err-reserve_entries-clause-same
returns-in_err-reserve_entries-clause-same c =
    as-unchanged c.args.records.now c.make_room.new.records c.reserve_entries.new.records
    (as-rest c.args.records.now c.make_room.new.records c.make_room.ensures.rest c.make_room.ensures.users) c.reserve_entries.ensures.same

pub returns-in_err-runs-clause-same : goal.returns-in_err-runs-clause-same
returns-in_err-runs-clause-same c =
    as-unchanged c.args.records.now c.make_room.new.records c.reserve_entries.new.records
    (as-rest c.args.records.now c.make_room.new.records c.make_room.ensures.rest c.make_room.ensures.users) c.reserve_entries.ensures.same

pub returns-in_err-steps-clause-same : goal.returns-in_err-steps-clause-same
returns-in_err-steps-clause-same c =
    as-unchanged c.args.records.now c.make_room.new.records c.reserve_entries.new.records
    (as-rest c.args.records.now c.make_room.new.records c.make_room.ensures.rest c.make_room.ensures.users) c.reserve_entries.ensures.same

pub returns-in_err-taken-clause-same : goal.returns-in_err-taken-clause-same
returns-in_err-taken-clause-same c =
    as-unchanged c.args.records.now c.make_room.new.records c.reserve_entries.new.records
    (as-rest c.args.records.now c.make_room.new.records c.make_room.ensures.rest c.make_room.ensures.users) c.reserve_entries.ensures.same

pub returns-clause-same : goal.returns-clause-same
returns-clause-same c =
    as-unchanged c.args.records.now c.make_room.new.records c.reserve_entries.new.records
    (as-rest c.args.records.now c.make_room.new.records c.make_room.ensures.rest c.make_room.ensures.users) c.reserve_entries.ensures.same

pub returns-clause-ready : goal.returns-clause-ready
returns-clause-ready c =
    let joins = c.args.renewal.joins.items in
    let mid = c.make_room.new.records in
    let new = c.reserve_entries.new.records in
    let steps = c.in_ok-steps.steps.items in
    let changes = c.args.changes.items in
    let made = c.in_ok-steps.ensures in
    record {
      steps =
          subst (λ l. AreStepsOf (new_run c.args.renewal.reruns.items) (pairs_of_key l) new changes steps) c.deref-2.ensures.value
          (subst (λ run. AreStepsOf run (pairs_of_key c.deref-2.result.now) new changes steps) (λ j. λ g. c.in_ok-runs.ensures g j) made.steps);
      runs = λ g. made.runs g ∙ ap (cond (some_inserts steps g) None) (c.in_ok-runs.ensures g);
      taken = subst (AreTakenOut c.in_ok-taken.taken.keys) c.deref-3.ensures.value c.in_ok-taken.ensures;
      leaves = refl;
      joins = refl;
      subrs = omega (arith, made.count, c.len.ensures, c.in_ok-reserve_entries.ensures.subrs);
      glyphs = omega (arith, made.count, c.len.ensures, c.in_ok-reserve_entries.ensures.glyphs);
      users = λ k.
          subst (λ s. MayJoin (pairs_of_key joins k) s) (sym (users-same mid new c.reserve_entries.ensures.same k))
          (subst (λ l. MayJoin (pairs_of_key l k) (users_at mid k)) c.deref.ensures.value (c.in_ok-make_room.ensures.room k));
    }
