use Rattle.std.proofs.Common.{ap, cond, Some, ◌∙◌}
use Rattle.std.specs.Map.{lookup}
use Rattle.std.specs.Str.{bytes_eq}
use Rattle.t1_font.proofs.Lookups.{bytes_tell, inserted-at}
use Rattle.t1_held.specs.Noting.{glyph_body}
use Rattle.t1_held.proofs.batch.last_bodies.put_glyph.Goals as goal

pub returns : goal.returns
returns c = λ g.
    let old = c.args.glyphs.now.entries in
    let key = c.in_ok-from_slice.field-0 in
    let body = c.args.body in
    ap (λ es. lookup (λ k. bytes_eq g k.items) es) c.in_ok-insert.ensures.entries
    ∙ inserted-at bytes_eq bytes_tell (λ k. k.items) g key body old
    ∙ ap (λ n. cond (bytes_eq g n) (Some body) (glyph_body old g)) c.in_ok-from_slice.ensures.items
