use Rattle.std.proofs.Common.{ap, map, sym, subst, ◌∙◌, refl}
use Rattle.std.specs.Option.{option_map}
use Rattle.std.specs.Str.{bytes_eq}
use Rattle.t1_cache.specs.declared.records.GlyphRecord.{GlyphRecord}
use Rattle.t1_cache.specs.Users.{among, users_of, glyph_users, glyph_rest, HasUserRoom}
use Rattle.t1_font.proofs.Lookups.{bytes_tell}
use Rattle.t1_cache.proofs.Putting.{came, rest-put, room-put}
use Rattle.t1_cache.proofs.users.join_glyph.Goals as goal

pub put_in-requires : goal.put_in-requires
put_in-requires c = rw c.record_mut.ensures.now (subst (λ r. HasUserRoom 1 (option_map (λ x. users_of x.users) r)) (sym c.in-Some.ensures.value) c.requires)

pub returns-in-Some-clause-users : goal.returns-in-Some-clause-users
returns-in-Some-clause-users c =
    rw c.record_mut.ensures.now
    (λ q u.
    let now : GlyphRecord = record c.in-Some.glyph.now { users = c.put_in.new.names } in
    ap (λ es. among (glyph_users es q) u) (c.get_mut.follows.holds now).0
    ∙ came bytes_eq bytes_tell (λ k. k.items) (λ r. users_of r.users) c.args.glyphs.now.entries c.args.part.now c.in-Some.glyph.now now c.args.name.items (sym c.in-Some.ensures.value) (rw c.record_mut.ensures.now at c.put_in.ensures.names) q u)

pub returns-in-Some-clause-room : goal.returns-in-Some-clause-room
returns-in-Some-clause-room c =
    rw c.record_mut.ensures.now
    (λ q count had.
    let now : GlyphRecord = record c.in-Some.glyph.now { users = c.put_in.new.names } in
    subst (λ es. HasUserRoom count (glyph_users es q)) (sym (c.get_mut.follows.holds now).0)
    (room-put bytes_eq bytes_tell (λ k. k.items) (λ r. users_of r.users) c.args.glyphs.now.entries c.args.part.now c.in-Some.glyph.now now (sym c.in-Some.ensures.value) (rw c.record_mut.ensures.now at c.put_in.ensures.room) q count had))

pub returns-in-Some-clause-rest : goal.returns-in-Some-clause-rest
returns-in-Some-clause-rest c =
    rw c.record_mut.ensures.now
    (let now : GlyphRecord = record c.in-Some.glyph.now { users = c.put_in.new.names } in
    ap (λ es. map glyph_rest es) (c.get_mut.follows.holds now).0
    ∙ rest-put glyph_rest c.args.glyphs.now.entries (λ k. bytes_eq c.args.part.now k.items) c.in-Some.glyph.now now (sym c.in-Some.ensures.value) (λ k. refl))
