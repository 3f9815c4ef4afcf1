use Rattle.std.proofs.Common.{ap, map, sym, subst, ◌∙◌, refl}
use Rattle.std.specs.Prelude.{nat_eq}
use Rattle.t1_cache.specs.declared.records.SubrRecord.{SubrRecord}
use Rattle.t1_cache.specs.Room.{IsRoomier}
use Rattle.t1_cache.specs.Users.{users_of, subr_users, subr_rest}
use Rattle.t1_font.proofs.Lookups.{numbers_tell}
use Rattle.t1_cache.proofs.Putting.{rest-put}
use Rattle.t1_cache.proofs.Rooming.{roomier-put}
use Rattle.t1_cache.proofs.room.reserve_subr.Goals as goal

pub returns-in-Some-clause-sets : goal.returns-in-Some-clause-sets
returns-in-Some-clause-sets c = λ q.
    let now : SubrRecord = record c.in-Some.record.now { users = c.reserve.new.self } in
    subst (λ es. IsRoomier (subr_users c.args.subrs.now.entries q) (subr_users es q)) (sym (c.get_mut.follows.holds now).0)
    (roomier-put nat_eq numbers_tell (λ k. k) (λ r. users_of r.users) c.args.subrs.now.entries c.args.number c.in-Some.record.now now
    (sym c.in-Some.ensures.value) (c.reserve.ensures.keys, c.reserve.ensures.room.0) q)

pub returns-in-Some-clause-rest : goal.returns-in-Some-clause-rest
returns-in-Some-clause-rest c =
    let now : SubrRecord = record c.in-Some.record.now { users = c.reserve.new.self } in
    ap (λ es. map subr_rest es) (c.get_mut.follows.holds now).0
    ∙ rest-put subr_rest c.args.subrs.now.entries (λ k. nat_eq c.args.number k) c.in-Some.record.now now (sym c.in-Some.ensures.value) (λ k. refl)
