use Rattle.std.proofs.Common.{rules, ◌≡◌, ◌∙◌, None, ap, cond, filter, map, not, refl}
use Rattle.indexmap.proofs.CallerLemmas.{filter-RetainsPairs}
use Rattle.t1_cache.specs.declared.records.Records.{Records}
use Rattle.t1_cache.specs.Bodies.{glyph_body, record_bodies}
use Rattle.t1_run.specs.RunKeys.{body_at}
use Rattle.t1_cache.specs.Recorded.{kept_of}
use Rattle.t1_cache.specs.Users.{glyph_users, is_name_among, is_key_among, users_at, users_of}
use Rattle.t1_font.proofs.Keys.{at-key}
use Rattle.t1_cache.proofs.Retaining.{kept-all, kept-left, reads-left}
use Rattle.t1_cache.proofs.changed.remove_glyphs.Goals as goal

pub returns-then-is_empty-clause-kept : goal.returns-then-is_empty-clause-kept
returns-then-is_empty-clause-kept c = kept-all c.args.names.now.keys (c.if-is_empty.ensures.0 refl) (map kept_of c.args.records.now.glyphs.entries)

left : (c : goal.After-retain) → c.retain.new.self.entries ≡ filter (λ e. not (is_name_among (λ name. name.items) c.args.names.now.keys e.0.items)) c.args.records.now.glyphs.entries
left c = filter-RetainsPairs _ _ _ (λ k v b w g call. search rules) _ _ c.retain.ensures.filtered

pub returns-clause-bodies : goal.returns-clause-bodies
returns-clause-bodies c =
    let old : Records = c.args.records.now in
    let new : Records = record c.args.records.now { glyphs = c.retain.new.self } in
    let names = c.args.names.now.keys in
    at-key (λ k. body_at (record_bodies new) k ≡ cond (is_key_among names k) None (body_at (record_bodies old) k))
    (λ n. refl)
    (λ g. ap (λ es. glyph_body es g) (left c) ∙ reads-left (λ r. r.body) (is_name_among (λ name. name.items) names) g old.glyphs.entries)

pub returns-clause-users : goal.returns-clause-users
returns-clause-users c =
    let old : Records = c.args.records.now in
    let new : Records = record c.args.records.now { glyphs = c.retain.new.self } in
    let names = c.args.names.now.keys in
    at-key (λ k. users_at new k ≡ cond (is_key_among names k) None (users_at old k))
    (λ n. refl)
    (λ g. ap (λ es. glyph_users es g) (left c) ∙ reads-left (λ r. users_of r.users) (is_name_among (λ name. name.items) names) g old.glyphs.entries)

pub returns-clause-kept : goal.returns-clause-kept
returns-clause-kept c = ap (map kept_of) (left c) ∙ kept-left (is_name_among (λ name. name.items) c.args.names.now.keys) c.args.records.now.glyphs.entries
