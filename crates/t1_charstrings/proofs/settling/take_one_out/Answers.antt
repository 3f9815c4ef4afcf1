use Rattle.std.proofs.Common.{◌≡◌, cond, refl, None}
use Rattle.t1_run.specs.Run.{Glyph}
use Rattle.t1_run.specs.RunKeys.{key_eq}
use Rattle.t1_charstrings.specs.declared.entries.Charstrings.{Charstrings}
use Rattle.t1_charstrings.specs.Kept.{charstring_at}
use Rattle.t1_charstrings.proofs.Batches.{taken-at}
use Rattle.t1_font.proofs.Keys.{at-key}
use Rattle.t1_charstrings.proofs.settling.take_one_out.Goals as goal

pub returns-in-Glyph-clause-sets : goal.returns-in-Glyph-clause-sets
returns-in-Glyph-clause-sets c =
    let old : Charstrings = c.args.charstrings.now in
    let new : Charstrings = record old { glyphs = c.swap_remove-in-Glyph.new.self } in
    let name = c.in-Glyph.name in
    rw c.in-Glyph.is
    (at-key (λ k. charstring_at new k ≡ cond (key_eq k (Glyph name)) None (charstring_at old k))
    (λ n. refl)
    (taken-at (λ k. k.items) old.glyphs.entries new.glyphs.entries c.as_slice.result.now name c.as_slice.ensures c.swap_remove-in-Glyph.ensures.updates.0))
