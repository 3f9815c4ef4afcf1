use Rattle.std.proofs.Common.{◌≡◌, ◌++◌, ℕ, List}
use Rattle.std.specs.Prelude.{All}
use Rattle.std.specs.Option.{option_or}
use Rattle.t1_run.specs.Run.{own}
use Rattle.t1_font.specs.Bodies.{bodies_check, subr_among}
use Rattle.t1_font.specs.Glyphs.{glyph_names}
use Rattle.t1_font.specs.InTurn.{staying, AreRows, IsFirstOfName, SubrsStandFirst}
use Rattle.t1_font.specs.Runs.{drawing_in}
use Rattle.t1_font.specs.ToRun.{font_to_run}
use Rattle.t1_font.specs.StoredSubrs.{subr_stored}
use Rattle.t1_font.proofs.turns.Turns.take_all.Given as goal

-- what was reported of the items so far, and the bodies of those that are left
abbrev pub invariant-loop-item : goal.invariant-loop-item
invariant-loop-item g l =
    (goal.iterator-loop-item g).can_next l.item-iterator × (goal.iterator-loop-item g).is_finite l.item-iterator
    × record {
      firsts : All (IsFirstOfName l.items) l.item-iterator;
      order : SubrsStandFirst l.item-iterator;
      checked : bodies_check l.item-iterator ≡ bodies_check l.items;
      subrs : (n : ℕ) → option_or (subr_stored l.self.subrs n) (subr_among l.item-iterator n) ≡ subr_among l.items n;
      done : List (List ℕ);
      names : done ++ glyph_names l.item-iterator ≡ glyph_names l.items;
      rows : AreRows (own (font_to_run l.items)) done l.reported.rows;
      runs : (g : List ℕ) → drawing_in l.reported.runs g ≡ staying (own (font_to_run l.items)) done g;
    }
