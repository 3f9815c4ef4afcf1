use Rattle.std.proofs.Common.{◌≡◌, ℕ, List}
use Rattle.std.specs.Option.{option_or}
use Rattle.t1_font.specs.Bodies.{bodies_check, subr_among, glyph_among}
use Rattle.t1_font.specs.KeptBodies.{subr_body_kept, glyph_body_kept}
use Rattle.t1_font.proofs.bodies.add_bodies.Given as goal

-- what was added, and the bodies of the items that are left
abbrev pub invariant-loop-item : goal.invariant-loop-item
invariant-loop-item l =
    (goal.iterator-loop-item).can_next l.item-iterator × (goal.iterator-loop-item).is_finite l.item-iterator
    × record {
      checked : bodies_check l.item-iterator ≡ bodies_check l.items;
      subrs : (n : ℕ) → option_or (subr_body_kept l.subrs.entries n) (subr_among l.item-iterator n) ≡ subr_among l.items n;
      glyphs : (g : List ℕ) → option_or (glyph_body_kept l.glyphs.entries g) (glyph_among l.item-iterator g) ≡ glyph_among l.items g;
    }
