use Rattle.std.proofs.Common.{◌∙◌, ap}
use Rattle.std.specs.Prelude.{◌||◌}
use Rattle.std.specs.Str.{bytes_eq}
use Rattle.std.proofs.Math.Bool.{or_assoc}
use Rattle.t1_cache.specs.Users.{among, glyph_users, is_name_among}
use Rattle.t1_font.proofs.Naming.{name-inserted}
use Rattle.t1_cache.proofs.stale.add_glyph.Goals as goal

pub returns : goal.returns
returns c = λ g.
    let old = c.args.found.now.keys in
    let name = c.args.name.now in
    c.in_ok-add_users_of.ensures.names g
    ∙ ap (λ b. b || among (glyph_users c.args.glyphs.now.entries name) g) (ap (λ keys. is_name_among (λ k. k.now) keys g) c.in_ok-insert.ensures.keys ∙ name-inserted (λ k. k.now) g c.args.name old)
    ∙ or_assoc (is_name_among (λ k. k.now) old g) (bytes_eq g name) (among (glyph_users c.args.glyphs.now.entries name) g)
