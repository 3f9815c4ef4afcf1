-- What is known of the entry that an edit names before it is looked for.
use Rattle.std.specs.Prelude.{◌≡◌, ℕ, false, List}
use Rattle.std.specs.List.{list_any}
use Rattle.t1_parts.specs.declared.item.Item.{Item}
use Rattle.t1_parts.specs.Entries.{is_glyph}
use Rattle.t1_parts.specs.SourceParts.{SourceParts}
use Rattle.t1_source.specs.declared.edit.Edit.{Edit}
use Rattle.t1_source.specs.declared.edit.Edit.TheVariants.{AddGlyph}
use Rattle.t1_source.specs.declared.editing.hint.Hint.{Hint}
use Rattle.t1_source.specs.declared.editing.hint.Hint.TheVariants as hints

-- word, edits: where a glyph is told to be new, no item is the glyph of this name
abbrev pub IsTrueOfGlyph : Hint → List ℕ → List Item → Type 0
IsTrueOfGlyph (hints.Near place) g items = Unit {0}
IsTrueOfGlyph hints.NewGlyph g items = list_any (is_glyph g) items ≡ false

-- word, edits: the same of the glyph that an edit adds; of other edits nothing is told
abbrev pub IsTrueOfEdit : Hint → Edit → SourceParts → Type 0
IsTrueOfEdit (hints.Near place) edit s = Unit {0}
IsTrueOfEdit hints.NewGlyph (AddGlyph g body) s = IsTrueOfGlyph hints.NewGlyph g s.items
IsTrueOfEdit hints.NewGlyph edit s = Unit {0}
