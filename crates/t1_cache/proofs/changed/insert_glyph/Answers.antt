use Rattle.std.proofs.Common.{◌≡◌, ◌∙◌, ℕ, List, Some, ap, cond, map, refl, subst, sym}
use Rattle.std.specs.Str.{bytes_eq}
use Rattle.t1_run.specs.Run.{Glyph}
use Rattle.t1_run.specs.RunKeys.{body_at, key_eq}
use Rattle.indexmap.proofs.CallerLemmas.{insert_entry-new}
use Rattle.t1_cache.specs.declared.records.GlyphRecord.{GlyphRecord}
use Rattle.t1_cache.specs.declared.records.Records.{Records}
use Rattle.t1_cache.specs.Bodies.{glyph_body, record_bodies}
use Rattle.t1_cache.specs.Recorded.{kept_of}
use Rattle.t1_cache.specs.Users.{among, glyph_users, lists, users_at, users_of, HasUserRoom}
use Rattle.t1_font.proofs.Keys.{at-key}
use Rattle.t1_cache.proofs.Changing.{kept-last, nothing-read, reads-inserted, room-inserted, users-inserted}
use Rattle.t1_font.proofs.Lookups.{bytes_tell}
use Rattle.t1_cache.proofs.changed.insert_glyph.Goals as goal

pub returns-clause-bodies : goal.returns-clause-bodies
returns-clause-bodies c =
    let now : GlyphRecord = c.args.entry in
    let old : Records = c.args.records.now in
    let new : Records = record c.args.records.now { glyphs = c.insert.new.self } in
    at-key (λ k. body_at (record_bodies new) k ≡ cond (key_eq k (Glyph c.args.name.items)) (Some c.args.entry.body) (body_at (record_bodies old) k))
    (λ n. refl)
    (λ g.
    ap (λ es. glyph_body es g) c.in_ok-insert.ensures.entries
    ∙ reads-inserted bytes_eq bytes_tell (λ k. k.items) (λ r. r.body) old.glyphs.entries c.args.name now g)

pub returns-clause-users : goal.returns-clause-users
returns-clause-users c =
    let now : GlyphRecord = c.args.entry in
    let old : Records = c.args.records.now in
    let new : Records = record c.args.records.now { glyphs = c.insert.new.self } in
    at-key (λ k. (u : List ℕ) → lists new k u ≡ lists old k u)
    (λ n u. refl)
    (λ g u.
    ap (λ es. among (glyph_users es g) u) c.in_ok-insert.ensures.entries
    ∙ users-inserted bytes_eq bytes_tell (λ k. k.items) (λ r. users_of r.users) old.glyphs.entries c.args.name now (nothing-read (λ r. r.body) _ c.requires.none) c.requires.unused g u)

pub returns-clause-room : goal.returns-clause-room
returns-clause-room c =
    let now : GlyphRecord = c.args.entry in
    let old : Records = c.args.records.now in
    let new : Records = record c.args.records.now { glyphs = c.insert.new.self } in
    at-key (λ k. (count : ℕ) → HasUserRoom count (users_at old k) → HasUserRoom count (users_at new k))
    (λ n count had. had)
    (λ g count had.
    subst (λ es. HasUserRoom count (glyph_users es g)) (sym c.in_ok-insert.ensures.entries)
    (room-inserted bytes_eq bytes_tell (λ k. k.items) (λ r. users_of r.users) old.glyphs.entries c.args.name now (nothing-read (λ r. r.body) _ c.requires.none) g count had))

pub returns-clause-kept : goal.returns-clause-kept
returns-clause-kept c =
    let now : GlyphRecord = c.args.entry in
    ap (map kept_of) (c.in_ok-insert.ensures.entries ∙ insert_entry-new (λ x y. bytes_eq x.items y.items) c.args.records.now.glyphs c.args.name now (nothing-read (λ r. r.body) _ c.requires.none))
    ∙ kept-last c.args.records.now.glyphs.entries (c.args.name, now)
