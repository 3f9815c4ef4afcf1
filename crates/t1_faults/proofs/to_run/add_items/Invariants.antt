use Rattle.std.proofs.Common.{◌≡◌, ℕ, List}
use Rattle.std.specs.Option.{option_or}
use Rattle.t1_font.specs.Bodies.{subr_among}
use Rattle.t1_font.specs.KeptBodies.{glyph_body_kept, subr_body_kept}
use Rattle.t1_font.specs.ToRun.{glyph_to_run}
use Rattle.t1_faults.proofs.to_run.add_items.Given as goal

-- what was added, and what is run of the items that are left
abbrev pub invariant-loop-item : goal.invariant-loop-item
invariant-loop-item l =
    (goal.iterator-loop-item).can_next l.item-iterator × (goal.iterator-loop-item).is_finite l.item-iterator
    × record {
      subrs : (n : ℕ) → option_or (subr_body_kept l.subrs.entries n) (subr_among l.item-iterator n) ≡ subr_among l.items n;
      glyphs : (g : List ℕ) → option_or (glyph_body_kept l.glyphs.entries g) (glyph_to_run l.item-iterator g) ≡ glyph_to_run l.items g;
    }
