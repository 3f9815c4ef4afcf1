use Rattle.std.proofs.Common.{ap, map, sym, refl, ◌∙◌}
use Rattle.std.specs.Str.{bytes_eq}
use Rattle.t1_cache.specs.declared.records.GlyphRecord.{GlyphRecord}
use Rattle.t1_cache.specs.Bodies.{glyph_body}
use Rattle.t1_cache.specs.Renewed.{with_run}
use Rattle.t1_cache.specs.Recorded.{kept_of}
use Rattle.t1_cache.specs.Users.{glyph_users, users_of}
use Rattle.t1_cache.proofs.Places.{with-put, with-none}
use Rattle.t1_cache.proofs.Names.{entries-once}
use Rattle.t1_font.proofs.Lookups.{bytes_tell}
use Rattle.t1_cache.proofs.Putting.{reads-stay}
use Rattle.t1_cache.proofs.users.renew.Goals as goal

pub returns-in-None-clause-records : goal.returns-in-None-clause-records
returns-in-None-clause-records c =
    rw c.get_mut.follows.holds-at-none
    (with-none c.args.glyphs.now.entries c.args.name.now c.args.run c.args.bbox c.in-None.ensures.value)

pub returns-in-Some-clause-records : goal.returns-in-Some-clause-records
returns-in-Some-clause-records c =
    rw c.record_mut-record.ensures.now
    (let now : GlyphRecord = record c.in-Some.glyph.now { run = c.replace.new.dest; bbox = c.args.bbox } in
    ap (λ es. map kept_of es) (c.get_mut.follows.holds now).0
    ∙ with-put c.args.glyphs.now.entries c.args.name.now now
    ∙ ap (λ run. with_run c.args.name.now run c.args.bbox (map kept_of c.args.glyphs.now.entries)) c.replace.ensures.after)

pub returns-in-Some-clause-users : goal.returns-in-Some-clause-users
returns-in-Some-clause-users c =
    rw c.record_mut-record.ensures.now
    (λ p.
    let now : GlyphRecord = record c.in-Some.glyph.now { run = c.replace.new.dest; bbox = c.args.bbox } in
    ap (λ es. glyph_users es p) (c.get_mut.follows.holds now).0
    ∙ reads-stay bytes_eq bytes_tell (λ k. k.items) (λ r. users_of r.users) c.args.glyphs.now.entries c.args.name.now c.in-Some.glyph.now now
    (sym c.in-Some.ensures.value) refl p)

pub returns-in-Some-clause-bodies : goal.returns-in-Some-clause-bodies
returns-in-Some-clause-bodies c =
    rw c.record_mut-record.ensures.now
    (λ p.
    let now : GlyphRecord = record c.in-Some.glyph.now { run = c.replace.new.dest; bbox = c.args.bbox } in
    ap (λ es. glyph_body es p) (c.get_mut.follows.holds now).0
    ∙ reads-stay bytes_eq bytes_tell (λ k. k.items) (λ r. r.body) c.args.glyphs.now.entries c.args.name.now c.in-Some.glyph.now now
    (sym c.in-Some.ensures.value) refl p)

pub returns-in-None-clause-once : goal.returns-in-None-clause-once
returns-in-None-clause-once c = entries-once c.args.glyphs.now.entries c.get_mut.ensures.unique

pub returns-in-Some-clause-once : goal.returns-in-Some-clause-once
returns-in-Some-clause-once c = entries-once c.args.glyphs.now.entries c.get_mut.ensures.unique
