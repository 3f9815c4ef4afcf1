use Rattle.std.proofs.Common.{◌≡◌, ◌∙◌, ap, cond, map, refl, sym}
use Rattle.std.specs.Str.{bytes_eq}
use Rattle.t1_run.specs.Run.{Glyph}
use Rattle.t1_run.specs.RunKeys.{body_at, key_eq}
use Rattle.t1_cache.specs.declared.records.GlyphRecord.{GlyphRecord}
use Rattle.t1_cache.specs.declared.records.Records.{Records}
use Rattle.t1_cache.specs.Bodies.{glyph_body, record_bodies}
use Rattle.t1_cache.specs.Recorded.{kept_of}
use Rattle.t1_cache.specs.Users.{glyph_users, users_at, users_of}
use Rattle.std.specs.Option.{option_map}
use Rattle.t1_font.proofs.Keys.{at-key}
use Rattle.t1_cache.proofs.Changing.{put-there}
use Rattle.t1_font.proofs.Lookups.{bytes_tell}
use Rattle.t1_cache.proofs.Putting.{reads-put, reads-stay, rest-put}
use Rattle.t1_cache.proofs.changed.put_glyph.Goals as goal

pub returns-in-Some-clause-bodies : goal.returns-in-Some-clause-bodies
returns-in-Some-clause-bodies c =
    rw c.record_mut.ensures.now
    (let now : GlyphRecord = record c.in-Some.glyph.now { body = c.args.body } in
    let old : Records = c.args.records.now in
    let new : Records = record c.args.records.now { glyphs = c.get_mut.follows.lender now } in
    at-key (λ k. body_at (record_bodies new) k ≡ cond (key_eq k (Glyph c.args.name.now)) (option_map (λ was. c.args.body) (body_at (record_bodies old) k)) (body_at (record_bodies old) k))
    (λ n. refl)
    (λ g.
    ap (λ es. glyph_body es g) (c.get_mut.follows.holds now).0
    ∙ reads-put bytes_eq bytes_tell (λ k. k.items) (λ r. r.body) old.glyphs.entries c.args.name.now c.in-Some.glyph.now now (sym c.in-Some.ensures.value) g
    ∙ put-there bytes_eq bytes_tell (λ k. k.items) (λ r. r.body) old.glyphs.entries c.args.name.now c.args.body c.in-Some.glyph.now (sym c.in-Some.ensures.value) g))

pub returns-in-Some-clause-users : goal.returns-in-Some-clause-users
returns-in-Some-clause-users c =
    rw c.record_mut.ensures.now
    (let now : GlyphRecord = record c.in-Some.glyph.now { body = c.args.body } in
    let old : Records = c.args.records.now in
    let new : Records = record c.args.records.now { glyphs = c.get_mut.follows.lender now } in
    at-key (λ k. users_at new k ≡ users_at old k)
    (λ n. refl)
    (λ g.
    ap (λ es. glyph_users es g) (c.get_mut.follows.holds now).0
    ∙ reads-stay bytes_eq bytes_tell (λ k. k.items) (λ r. users_of r.users) old.glyphs.entries c.args.name.now c.in-Some.glyph.now now (sym c.in-Some.ensures.value) refl g))

pub returns-in-Some-clause-kept : goal.returns-in-Some-clause-kept
returns-in-Some-clause-kept c =
    rw c.record_mut.ensures.now
    (let now : GlyphRecord = record c.in-Some.glyph.now { body = c.args.body } in
    ap (map kept_of) (c.get_mut.follows.holds now).0
    ∙ rest-put kept_of c.args.records.now.glyphs.entries (λ k. bytes_eq c.args.name.now k.items) c.in-Some.glyph.now now (sym c.in-Some.ensures.value) (λ k. refl))
