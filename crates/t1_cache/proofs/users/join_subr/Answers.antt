use Rattle.std.proofs.Common.{ap, map, sym, subst, ◌∙◌, refl}
use Rattle.std.specs.Prelude.{nat_eq}
use Rattle.std.specs.Option.{option_map}
use Rattle.t1_cache.specs.declared.records.SubrRecord.{SubrRecord}
use Rattle.t1_cache.specs.Users.{among, users_of, subr_users, subr_rest, HasUserRoom}
use Rattle.t1_font.proofs.Lookups.{numbers_tell}
use Rattle.t1_cache.proofs.Putting.{came, rest-put, room-put}
use Rattle.t1_cache.proofs.users.join_subr.Goals as goal

pub put_in-requires : goal.put_in-requires
put_in-requires c = subst (λ r. HasUserRoom 1 (option_map (λ x. users_of x.users) r)) (sym c.in-Some.ensures.value) c.requires

pub returns-in-Some-clause-users : goal.returns-in-Some-clause-users
returns-in-Some-clause-users c = λ q u.
    let now : SubrRecord = record c.in-Some.record.now { users = c.put_in.new.names } in
    ap (λ es. among (subr_users es q) u) (c.get_mut.follows.holds now).0
    ∙ came nat_eq numbers_tell (λ k. k) (λ r. users_of r.users) c.args.subrs.now.entries c.args.number c.in-Some.record.now now c.args.name.items (sym c.in-Some.ensures.value) c.put_in.ensures.names q u

pub returns-in-Some-clause-room : goal.returns-in-Some-clause-room
returns-in-Some-clause-room c = λ q count had.
    let now : SubrRecord = record c.in-Some.record.now { users = c.put_in.new.names } in
    subst (λ es. HasUserRoom count (subr_users es q)) (sym (c.get_mut.follows.holds now).0)
    (room-put nat_eq numbers_tell (λ k. k) (λ r. users_of r.users) c.args.subrs.now.entries c.args.number c.in-Some.record.now now (sym c.in-Some.ensures.value) c.put_in.ensures.room q count had)

pub returns-in-Some-clause-rest : goal.returns-in-Some-clause-rest
returns-in-Some-clause-rest c =
    let now : SubrRecord = record c.in-Some.record.now { users = c.put_in.new.names } in
    ap (λ es. map subr_rest es) (c.get_mut.follows.holds now).0
    ∙ rest-put subr_rest c.args.subrs.now.entries (λ k. nat_eq c.args.number k) c.in-Some.record.now now (sym c.in-Some.ensures.value) (λ k. refl)
