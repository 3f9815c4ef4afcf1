use Rattle.std.proofs.Common.{◌≡◌, ◌∙◌, ℕ, List, [], false, ap, map}
use Rattle.t1_run.specs.Footprint.{SameAt}
use Rattle.t1_run.specs.Run.{Key, font}
use Rattle.t1_font.specs.KeptBodies.{glyph_body_kept, subr_body_kept}
use Rattle.t1_font.proofs.Keys.{at-key}
use Rattle.t1_cache.specs.declared.records.Records.{Records}
use Rattle.t1_cache.specs.Bodies.{record_bodies, subr_body}
use Rattle.t1_cache.specs.Recorded.{kept_of}
use Rattle.t1_cache.specs.Users.{among, glyph_users, lists, subr_users}
use Rattle.t1_rerun.proofs.opening.insert_entries.Goals as goal

none-listed : (records : Records) → records.subrs.entries ≡ [] → records.glyphs.entries ≡ [] → (k : Key) (u : List ℕ) → lists records k u ≡ false
none-listed records no-subrs no-glyphs =
    at-key (λ k. (u : List ℕ) → lists records k u ≡ false)
    (λ n u. ap (λ es. among (subr_users es n) u) no-subrs)
    (λ g u. ap (λ es. among (glyph_users es g) u) no-glyphs)

pub insert_subrs-requires : goal.insert_subrs-requires
insert_subrs-requires c = λ n. ap (λ es. subr_body es n) c.requires.no_subrs

pub insert_glyphs-requires-clause-none : goal.insert_glyphs-requires-clause-none
insert_glyphs-requires-clause-none c = c.in_ok-insert_subrs.ensures.kept ∙ ap (map kept_of) c.requires.no_glyphs

pub insert_glyphs-requires-clause-distinct : goal.insert_glyphs-requires-clause-distinct
insert_glyphs-requires-clause-distinct c = c.requires.measured.distinct

pub insert_glyphs-requires-clause-bodies : goal.insert_glyphs-requires-clause-bodies
insert_glyphs-requires-clause-bodies c = c.requires.measured.bodies

pub insert_glyphs-requires-clause-runs : goal.insert_glyphs-requires-clause-runs
insert_glyphs-requires-clause-runs c = c.requires.measured.each

pub returns : goal.returns
returns c =
    let records = c.insert_glyphs.new.records in
    let m = font (subr_body_kept c.args.subrs.entries) (glyph_body_kept c.args.glyphs.now.entries) in
    let subrs = c.in_ok-insert_subrs.ensures in
    let glyphs = c.in_ok-insert_glyphs.ensures in
    record {
      compiled = at-key (SameAt (record_bodies records) m) (λ n. glyphs.subrs n ∙ subrs.subrs n) (λ g. glyphs.glyphs g);
      users = λ k u. glyphs.users k u ∙ subrs.users k u ∙ none-listed c.args.records.now c.requires.no_subrs c.requires.no_glyphs k u;
      order = glyphs.order;
      each = glyphs.each;
    }
