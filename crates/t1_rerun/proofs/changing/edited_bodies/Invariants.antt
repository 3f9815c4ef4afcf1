use Rattle.std.proofs.Common.{◌≡◌, ℕ, List, drop}
use Rattle.std.specs.Option.{option_or}
use Rattle.t1_run.specs.Run.{Subr, Glyph}
use Rattle.t1_rerun.specs.Changing.{body_changed, glyph_set, subr_set}
use Rattle.t1_rerun.proofs.changing.edited_bodies.Given as goal

-- what is set, or else what the changes that are left do, is what all of them do
abbrev pub invariant-loop-change : goal.invariant-loop-change
invariant-loop-change l = record {
  subrs : (n : ℕ) → option_or (subr_set l.subrs.entries n) (body_changed (drop l.change-index l.changes) (Subr n)) ≡ body_changed l.changes (Subr n);
  glyphs : (g : List ℕ) → option_or (glyph_set l.glyphs.entries g) (body_changed (drop l.change-index l.changes) (Glyph g)) ≡ body_changed l.changes (Glyph g);
}
