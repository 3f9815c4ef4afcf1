use Rattle.std.proofs.Common.{ap, map, sym, subst, ◌∙◌, refl}
use Rattle.std.specs.Str.{bytes_eq}
use Rattle.t1_cache.specs.declared.records.GlyphRecord.{GlyphRecord}
use Rattle.t1_cache.specs.Room.{IsRoomier}
use Rattle.t1_cache.specs.Users.{users_of, glyph_users, glyph_rest}
use Rattle.t1_font.proofs.Lookups.{bytes_tell}
use Rattle.t1_cache.proofs.Putting.{rest-put}
use Rattle.t1_cache.proofs.Rooming.{roomier-put}
use Rattle.t1_cache.proofs.room.reserve_glyph.Goals as goal

pub returns-in-Some-clause-sets : goal.returns-in-Some-clause-sets
returns-in-Some-clause-sets c =
    rw c.record_mut.ensures.now
    (λ q.
    let now : GlyphRecord = record c.in-Some.glyph.now { users = c.reserve.new.self } in
    subst (λ es. IsRoomier (glyph_users c.args.glyphs.now.entries q) (glyph_users es q)) (sym (c.get_mut.follows.holds now).0)
    (roomier-put bytes_eq bytes_tell (λ k. k.items) (λ r. users_of r.users) c.args.glyphs.now.entries c.args.name.now c.in-Some.glyph.now now
    (sym c.in-Some.ensures.value) (rw c.record_mut.ensures.now at c.reserve.ensures.keys, rw c.record_mut.ensures.now at c.reserve.ensures.room.0) q))

pub returns-in-Some-clause-rest : goal.returns-in-Some-clause-rest
returns-in-Some-clause-rest c =
    rw c.record_mut.ensures.now
    (let now : GlyphRecord = record c.in-Some.glyph.now { users = c.reserve.new.self } in
    ap (λ es. map glyph_rest es) (c.get_mut.follows.holds now).0
    ∙ rest-put glyph_rest c.args.glyphs.now.entries (λ k. bytes_eq c.args.name.now k.items) c.in-Some.glyph.now now (sym c.in-Some.ensures.value) (λ k. refl))
