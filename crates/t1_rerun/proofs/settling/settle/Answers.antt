use Rattle.std.proofs.Common.{refl}
use Rattle.t1_cache.specs.declared.records.Records.{Records}
use Rattle.t1_rerun.proofs.Changes.{room-mid, settled-by}
use Rattle.t1_rerun.proofs.Preparing.{same-glyphs, same-users}
use Rattle.t1_rerun.proofs.settling.settle.Goals as goal

pub move_users-requires : goal.move_users-requires
move_users-requires c =
    let may = c.requires in
    room-mid may.changes may.judged.0 may.judged.1.0 c.args.records.now may.renewal c.args.ready may.prepared may.judged.1.1 c.change_all.new.records c.change_all.ensures

pub returns-clause-right : goal.returns-clause-right
returns-clause-right c = λ changes renewal is old new j.
    let moved = c.move_users.new.records in
    let last : Records = record c.move_users.new.records { glyphs = c.renew_by_name.new.glyphs } in
    (settled-by changes old new c.args.records.now renewal c.args.ready is j c.change_all.new.records c.change_all.ensures moved last
    c.move_users.ensures.rest c.move_users.ensures.users
    (same-glyphs moved last refl c.renew_by_name.ensures.bodies)
    (same-users moved last refl c.renew_by_name.ensures.users)
    c.renew_by_name.ensures.records).0

pub returns-clause-renews : goal.returns-clause-renews
returns-clause-renews c = λ changes renewal is old new j.
    let moved = c.move_users.new.records in
    let last : Records = record c.move_users.new.records { glyphs = c.renew_by_name.new.glyphs } in
    (settled-by changes old new c.args.records.now renewal c.args.ready is j c.change_all.new.records c.change_all.ensures moved last
    c.move_users.ensures.rest c.move_users.ensures.users
    (same-glyphs moved last refl c.renew_by_name.ensures.bodies)
    (same-users moved last refl c.renew_by_name.ensures.users)
    c.renew_by_name.ensures.records).1
