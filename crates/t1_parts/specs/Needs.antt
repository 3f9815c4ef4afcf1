-- What entries ask of the counts of their sections.
use Rattle.std.specs.Prelude.{◌≡◌, List}
use Rattle.t1_parts.specs.declared.item.Item.{Item}
use Rattle.t1_parts.specs.declared.starts.Needs.{Needs}
use Rattle.t1_parts.specs.Counts.{subrs_needed, glyphs_needed}

-- word, sections: this is what items ask of the counts of their sections
abbrev pub AreNeeded : Needs → List Item → Type 0
AreNeeded needs items = (needs.subrs ≡ subrs_needed items) × (needs.glyphs ≡ glyphs_needed items)
