use Rattle.std.proofs.Common.{◌∙◌, ap, map, subst, sym}
use Rattle.std.specs.List.{AllByRecursion}
use Rattle.t1_font.specs.KeptBodies.{plain_bodies}
use Rattle.t1_cache.specs.Bodies.{record_bodies}
use Rattle.t1_cache.specs.Room.{MayJoin}
use Rattle.t1_cache.specs.Users.{users_at, pairs_of_key}
use Rattle.t1_cache.proofs.Changing.{rest_same}
use Rattle.t1_rerun.specs.Opened.{IsRecorded}
use Rattle.t1_rerun.proofs.Steps.{same-twice}
use Rattle.t1_rerun.proofs.Building.{room-there, tables-built}
use Rattle.t1_rerun.proofs.opening.records_of.Goals as goal

pub move_users-requires : goal.move_users-requires
move_users-requires c =
    let roomy = c.make_room.new.records in
    let made = c.in_ok-make_room.ensures in
    room-there (plain_bodies c.args.bodies) c.args.names.now c.args.runs c.args.metrics.now c.requires.measured c.requires.names c.in_ok-joins.joins.items c.in_ok-joins.ensures
    c.in_ok-records.records roomy c.in_ok-records.ensures.compiled made.rest
    (λ k. subst (λ l. MayJoin (pairs_of_key l k) (users_at roomy k)) c.deref.ensures.value (made.room k))

pub returns-clause-compiled : goal.returns-clause-compiled
returns-clause-compiled c =
    let records = c.in_ok-records.records in
    let new = c.move_users.new.records in
    same-twice (record_bodies new) (record_bodies records) (plain_bodies c.args.bodies)
    (rest_same records new (c.move_users.ensures.rest ∙ c.in_ok-make_room.ensures.rest)).0 c.in_ok-records.ensures.compiled

pub returns-clause-users : goal.returns-clause-users
returns-clause-users c =
    tables-built (plain_bodies c.args.bodies) c.args.names.now c.args.runs c.args.metrics.now c.requires.measured c.requires.names c.in_ok-joins.joins.items c.in_ok-joins.ensures
    c.make_room.new.records c.move_users.new.records c.new.result.items (λ k u. c.in_ok-make_room.ensures.users k u ∙ c.in_ok-records.ensures.users k u) c.move_users.ensures.users

pub returns-clause-order : goal.returns-clause-order
returns-clause-order c =
    ap (map (λ k. k.name)) (rest_same c.in_ok-records.records c.move_users.new.records (c.move_users.ensures.rest ∙ c.in_ok-make_room.ensures.rest)).1
    ∙ c.in_ok-records.ensures.order

pub returns-clause-each : goal.returns-clause-each
returns-clause-each c =
    subst (AllByRecursion (IsRecorded c.args.runs c.args.metrics.now))
    (sym (rest_same c.in_ok-records.records c.move_users.new.records (c.move_users.ensures.rest ∙ c.in_ok-make_room.ensures.rest)).1)
    c.in_ok-records.ensures.each
