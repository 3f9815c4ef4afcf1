-- The glyphs that edits make stale, and what edits leave of names and bodies.
use Rattle.std.specs.Prelude.{◌≡◌, ℕ, Bool, not, List, [], ◌∷◌, ◌++◌, filter, Option, None}
use Rattle.std.specs.Result.{result_ok}
use Rattle.std.specs.Str.{bytes_eq}
use Rattle.t1_code.specs.Words.{commands}
use Rattle.t1_code.specs.declared.command.Command.{Command}
use Rattle.t1_parts.specs.SourceParts.{SourceParts}
use Rattle.t1_source.specs.declared.edit.Edit.{Edit}
use Rattle.t1_source.specs.declared.edit.Edit.TheVariants.{ReplaceGlyph, AddGlyph, RemoveGlyph, ReplaceSubr, AddSubr}
use Rattle.t1_source.specs.Editing.{body_words}
use Rattle.t1_run.specs.Run.{Key}
use Rattle.t1_run.specs.Touched.{SameBut, is_named, is_touched}
use Rattle.t1_font.specs.Bodies.{bodies}
use Rattle.t1_font.specs.Glyphs.{glyph_names}

-- word: one source is another, edited at these keys: the other bodies are the same, and the other glyphs stand in
-- the same order
pub record IsEditedAt (keys : List Key) (old new : SourceParts) : Type 0 where
  pub bodies : SameBut keys (bodies old.items) (bodies new.items)
  pub order : filter (λ g. not (is_named keys g)) (glyph_names old.items) ≡ filter (λ g. not (is_named keys g)) (glyph_names new.items)

-- word: the glyphs that edits of a source at these keys make stale: those that an edit replaced or added; those whose
-- own run entered a Subr that an edit replaced or removed; the composites on any of these or on a glyph that an edit
-- removed. Keys that an edit added are among them: nothing of a source without a fault used them
abbrev pub is_stale : SourceParts → List Key → List ℕ → Bool
is_stale s keys g = is_touched (bodies s.items) keys g

-- word: the stale glyphs of the edited source, in its order
abbrev pub stale : SourceParts → List Key → SourceParts → List (List ℕ)
stale old keys new = filter (is_stale old keys) (glyph_names new.items)

-- word, edits: the names of the glyphs after an edit: a new glyph is the last one, and the others keep their order
abbrev pub names_after : Edit → List (List ℕ) → List (List ℕ)
names_after (AddGlyph g body) names = names ++ g ∷ []
names_after (RemoveGlyph g) names = filter (λ name. not (bytes_eq g name)) names
names_after _ names = names

-- word, edits: the body at the key that an edit names, after it, where its words are commands; none where it is removed
abbrev pub body_after : Edit → Option (List Command)
body_after (ReplaceGlyph g body) = result_ok (commands (body_words body))
body_after (AddGlyph g body) = result_ok (commands (body_words body))
body_after (ReplaceSubr n body) = result_ok (commands (body_words body))
body_after (AddSubr n body) = result_ok (commands (body_words body))
body_after _ = None
