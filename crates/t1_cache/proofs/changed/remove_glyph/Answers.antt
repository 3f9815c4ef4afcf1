use Rattle.std.proofs.Common.{Vec, Global, ◌≡◌, ◌∙◌, ℕ, None, ap, cond, map, refl, sym}
use Rattle.std.specs.Map.{lookup}
use Rattle.std.specs.Str.{bytes_eq}
use Rattle.t1_run.specs.Run.{Glyph}
use Rattle.t1_run.specs.RunKeys.{body_at, key_eq}
use Rattle.t1_cache.specs.declared.records.Records.{Records}
use Rattle.t1_cache.specs.Bodies.{glyph_body, record_bodies}
use Rattle.t1_cache.specs.Recorded.{kept_of}
use Rattle.t1_cache.specs.Users.{glyph_users, users_at, users_of}
use Rattle.t1_font.proofs.Keys.{at-key}
use Rattle.t1_cache.proofs.Changing.{all-but, kept-but, reads-removed}
use Rattle.t1_font.proofs.Lookups.{bytes_tell}
use Rattle.t1_cache.proofs.changed.remove_glyph.Goals as goal

pub returns-clause-bodies : goal.returns-clause-bodies
returns-clause-bodies c =
    let old : Records = c.args.records.now in
    let new : Records = record c.args.records.now { glyphs = c.shift_remove.new.self } in
    let entries = c.shift_remove.ensures.entries in
    let gone = sym (ap (lookup (λ k. bytes_eq c.args.name.now k.items)) entries) ∙ c.shift_remove.ensures.updates.1 in
    at-key (λ k. body_at (record_bodies new) k ≡ cond (key_eq k (Glyph c.args.name.now)) None (body_at (record_bodies old) k))
    (λ n. refl)
    (λ g. ap (λ es. glyph_body es g) entries ∙ reads-removed bytes_eq bytes_tell (λ k. k.items) (λ r. r.body) old.glyphs.entries c.args.name.now gone g)

pub returns-clause-users : goal.returns-clause-users
returns-clause-users c =
    let old : Records = c.args.records.now in
    let new : Records = record c.args.records.now { glyphs = c.shift_remove.new.self } in
    let entries = c.shift_remove.ensures.entries in
    let gone = sym (ap (lookup (λ k. bytes_eq c.args.name.now k.items)) entries) ∙ c.shift_remove.ensures.updates.1 in
    at-key (λ k. users_at new k ≡ cond (key_eq k (Glyph c.args.name.now)) None (users_at old k))
    (λ n. refl)
    (λ g. ap (λ es. glyph_users es g) entries ∙ reads-removed bytes_eq bytes_tell (λ k. k.items) (λ r. users_of r.users) old.glyphs.entries c.args.name.now gone g)

pub returns-clause-kept : goal.returns-clause-kept
returns-clause-kept c =
    let entries = c.shift_remove.ensures.entries in
    let test = λ (k : Vec ℕ Global). bytes_eq c.args.name.now k.items in
    let gone = sym (ap (lookup test) entries) ∙ c.shift_remove.ensures.updates.1 in
    ap (map kept_of) (entries ∙ all-but test c.args.records.now.glyphs.entries gone)
    ∙ kept-but c.args.name.now c.args.records.now.glyphs.entries
