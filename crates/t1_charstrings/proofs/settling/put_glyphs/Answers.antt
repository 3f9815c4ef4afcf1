use Rattle.std.proofs.Common.{◌∙◌, arith, length}
use Rattle.std.specs.Str.{bytes_eq}
use Rattle.t1_run.specs.Run.{Glyph}
use Rattle.t1_charstrings.specs.Entries.{glyph_charstring}
use Rattle.t1_font.proofs.Lookups.{none-found}
use Rattle.t1_charstrings.proofs.Batches.{all-put, on-ok, put-last}
use Rattle.t1_charstrings.proofs.settling.put_glyphs.Goals as goal

pub loop-name-preserved : goal.loop-name-preserved
loop-name-preserved c =
    let was = c.loop-name.invariant in
    let reported = c.insert_glyph-put.ensures in
    let some = c.in-Some.ensures in
    record {
      glyphs = λ fits g.
          put-last (λ k. bytes_eq g k.items) c.loop-name.left.entries c.pop.new.self.entries c.in-Some.name c.in-Some.entry
          (glyph_charstring c.loop-name.charstrings.glyphs.entries g) (glyph_charstring c.insert_glyph-put.new.charstrings.glyphs.entries g) some.entries
          (on-ok c.insert_glyph-put.result (reported.succeeds (omega (arith, some.len, was.room fits))) reported.sets (Glyph g))
          ∙ was.glyphs fits g;
      room = λ fits. omega (arith, reported.room.0, some.len, was.room fits);
      subrs = reported.room.1 ∙ was.subrs;
    }

pub returns-clause-glyphs : goal.returns-clause-glyphs
returns-clause-glyphs c = λ fits g.
    all-put (λ k. bytes_eq g k.items) c.loop-name.left.entries (glyph_charstring c.loop-name.charstrings.glyphs.entries g)
    (none-found c.pop.result (length c.loop-name.left.entries) c.in_default.is c.pop.ensures.found.1)
    ∙ c.loop-name.invariant.glyphs fits g
