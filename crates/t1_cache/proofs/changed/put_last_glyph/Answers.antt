use Rattle.std.proofs.Common.{Vec, Global, ◌≡◌, ◌∙◌, ◌++◌, [], ◌∷◌, ℕ, Some, None, ap, cond, map, refl, sym}
use Rattle.std.specs.Map.{lookup, remove_entry}
use Rattle.std.specs.Str.{bytes_eq}
use Rattle.indexmap.proofs.CallerLemmas.{insert_entry-new}
use Rattle.t1_run.specs.Run.{Glyph}
use Rattle.t1_run.specs.RunKeys.{body_at, key_eq}
use Rattle.t1_cache.specs.declared.records.Records.{Records}
use Rattle.t1_cache.specs.Bodies.{glyph_body, record_bodies}
use Rattle.t1_cache.specs.Renewed.{kept}
use Rattle.t1_cache.specs.Recorded.{kept_of}
use Rattle.t1_cache.specs.Users.{glyph_users, users_at, users_of}
use Rattle.t1_font.proofs.Keys.{at-key}
use Rattle.t1_cache.proofs.Changing.{again-at, all-but, kept-but, kept-last, reads-inserted, reads-removed}
use Rattle.t1_font.proofs.Lookups.{bytes_tell}
use Rattle.t1_cache.proofs.changed.put_last_glyph.Goals as goal

pub returns-clause-bodies : goal.returns-clause-bodies
returns-clause-bodies c =
    let old : Records = c.args.records.now in
    let new : Records = record c.args.records.now { glyphs = c.insert.new.self } in
    let name = c.args.name.items in
    let inserted = rw c.unwrap.ensures at c.insert.ensures.entries in
    let entries = c.shift_remove.ensures.entries ∙ ap (λ g. remove_entry (λ (k : Vec ℕ Global). bytes_eq g k.items) old.glyphs.entries) c.as_slice.ensures.value in
    let gone = sym (ap (lookup (λ (k : Vec ℕ Global). bytes_eq name k.items)) entries)
    ∙ ap (λ g. lookup (λ (k : Vec ℕ Global). bytes_eq g k.items) c.shift_remove.new.self.entries) (sym c.as_slice.ensures.value) ∙ c.shift_remove.ensures.updates.1 in
    at-key (λ k. body_at (record_bodies new) k ≡ cond (key_eq k (Glyph name)) (Some c.args.entry.body) (body_at (record_bodies old) k))
    (λ n. refl)
    (λ g.
    ap (λ es. glyph_body es g) inserted
    ∙ reads-inserted bytes_eq bytes_tell (λ k. k.items) (λ r. r.body) c.shift_remove.new.self.entries c.args.name c.args.entry g
    ∙ ap (cond (bytes_eq g name) (Some c.args.entry.body)) (ap (λ es. glyph_body es g) entries
    ∙ reads-removed bytes_eq bytes_tell (λ k. k.items) (λ r. r.body) old.glyphs.entries name gone g)
    ∙ again-at (bytes_eq g name) (Some c.args.entry.body) None (glyph_body old.glyphs.entries g))

pub returns-clause-users : goal.returns-clause-users
returns-clause-users c =
    let old : Records = c.args.records.now in
    let new : Records = record c.args.records.now { glyphs = c.insert.new.self } in
    let name = c.args.name.items in
    let inserted = rw c.unwrap.ensures at c.insert.ensures.entries in
    let entries = c.shift_remove.ensures.entries ∙ ap (λ g. remove_entry (λ (k : Vec ℕ Global). bytes_eq g k.items) old.glyphs.entries) c.as_slice.ensures.value in
    let gone = sym (ap (lookup (λ (k : Vec ℕ Global). bytes_eq name k.items)) entries)
    ∙ ap (λ g. lookup (λ (k : Vec ℕ Global). bytes_eq g k.items) c.shift_remove.new.self.entries) (sym c.as_slice.ensures.value) ∙ c.shift_remove.ensures.updates.1 in
    at-key (λ k. users_at new k ≡ cond (key_eq k (Glyph name)) (Some (users_of c.args.entry.users)) (users_at old k))
    (λ n. refl)
    (λ g.
    ap (λ es. glyph_users es g) inserted
    ∙ reads-inserted bytes_eq bytes_tell (λ k. k.items) (λ r. users_of r.users) c.shift_remove.new.self.entries c.args.name c.args.entry g
    ∙ ap (cond (bytes_eq g name) (Some (users_of c.args.entry.users))) (ap (λ es. glyph_users es g) entries
    ∙ reads-removed bytes_eq bytes_tell (λ k. k.items) (λ r. users_of r.users) old.glyphs.entries name gone g)
    ∙ again-at (bytes_eq g name) (Some (users_of c.args.entry.users)) None (glyph_users old.glyphs.entries g))

pub returns-clause-kept : goal.returns-clause-kept
returns-clause-kept c =
    let old = c.args.records.now.glyphs.entries in
    let name = c.args.name.items in
    let test = λ (k : Vec ℕ Global). bytes_eq name k.items in
    let mid = c.shift_remove.new.self in
    let inserted = rw c.unwrap.ensures at c.insert.ensures.entries in
    let entries = c.shift_remove.ensures.entries ∙ ap (λ g. remove_entry (λ (k : Vec ℕ Global). bytes_eq g k.items) old) c.as_slice.ensures.value in
    let absent = ap (λ g. lookup (λ (k : Vec ℕ Global). bytes_eq g k.items) mid.entries) (sym c.as_slice.ensures.value) ∙ c.shift_remove.ensures.updates.1 in
    let gone = sym (ap (lookup test) entries) ∙ absent in
    ap (map kept_of) (inserted ∙ insert_entry-new (λ x y. bytes_eq x.items y.items) mid c.args.name c.args.entry absent)
    ∙ kept-last mid.entries (c.args.name, c.args.entry)
    ∙ ap (λ l. l ++ kept name c.args.entry.run c.args.entry.bbox ∷ []) (ap (map kept_of) (entries ∙ all-but test old gone) ∙ kept-but name old)
