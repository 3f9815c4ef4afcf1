-- What contracts see of a source.
use Rattle.std.specs.Prelude.{ℕ, List}
use Rattle.t1_parts.specs.declared.item.Item.{Item}

-- profile, sources: the clear lines, the items of the private part, the lines of the tail
pub record SourceParts : Type 0 where
  pub clear : List (List ℕ)
  pub items : List Item
  pub tail : List (List ℕ)
