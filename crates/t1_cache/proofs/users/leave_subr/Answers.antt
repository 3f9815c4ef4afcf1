use Rattle.std.proofs.Common.{ap, map, sym, subst, ◌∙◌, refl}
use Rattle.std.specs.Prelude.{nat_eq}
use Rattle.t1_cache.specs.declared.records.SubrRecord.{SubrRecord}
use Rattle.t1_cache.specs.Users.{among, users_of, subr_users, subr_rest, HasUserRoom}
use Rattle.t1_font.proofs.Lookups.{numbers_tell}
use Rattle.t1_cache.proofs.Putting.{left, rest-put, room-stays}
use Rattle.t1_cache.proofs.users.leave_subr.Goals as goal

pub returns-in-Some-clause-users : goal.returns-in-Some-clause-users
returns-in-Some-clause-users c = λ q u.
    let now : SubrRecord = record c.in-Some.record.now { users = c.take_out.new.names } in
    ap (λ es. among (subr_users es q) u) (c.get_mut.follows.holds now).0
    ∙ left nat_eq numbers_tell (λ k. k) (λ r. users_of r.users) c.args.subrs.now.entries c.args.number c.in-Some.record.now now c.args.name.now (sym c.in-Some.ensures.value) c.take_out.ensures.names q u

pub returns-in-Some-clause-room : goal.returns-in-Some-clause-room
returns-in-Some-clause-room c = λ q count had.
    let now : SubrRecord = record c.in-Some.record.now { users = c.take_out.new.names } in
    subst (λ es. HasUserRoom count (subr_users es q)) (sym (c.get_mut.follows.holds now).0)
    (room-stays nat_eq numbers_tell (λ k. k) (λ r. users_of r.users) c.args.subrs.now.entries c.args.number c.in-Some.record.now now (sym c.in-Some.ensures.value) c.take_out.ensures.room q count had)

pub returns-in-Some-clause-rest : goal.returns-in-Some-clause-rest
returns-in-Some-clause-rest c =
    let now : SubrRecord = record c.in-Some.record.now { users = c.take_out.new.names } in
    ap (λ es. map subr_rest es) (c.get_mut.follows.holds now).0
    ∙ rest-put subr_rest c.args.subrs.now.entries (λ k. nat_eq c.args.number k) c.in-Some.record.now now (sym c.in-Some.ensures.value) (λ k. refl)
