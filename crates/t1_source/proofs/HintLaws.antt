-- Hints of the entries that edits name.
use Rattle.std.proofs.Common.{List, ℕ}
use Rattle.t1_parts.specs.SourceParts.{SourceParts}
use Rattle.t1_source.specs.declared.edit.Edit.TheVariants.{AddGlyph}
use Rattle.t1_source.specs.declared.editing.hint.Hint.{Hint}
use Rattle.t1_source.specs.declared.editing.hint.Hint.TheVariants as hints
use Rattle.t1_source.specs.Hints.{IsTrueOfEdit, IsTrueOfGlyph}

-- what is told of an edit that adds a glyph is told of the glyph
pub added : (hint : Hint) (g body : List ℕ) (s : SourceParts) → IsTrueOfEdit hint (AddGlyph g body) s → IsTrueOfGlyph hint g s.items
added (hints.Near place) g body s h = tt
added hints.NewGlyph g body s h = h
