-- The operator that reads a charstring, usually RD.
use Rattle.std.specs.Prelude.{ℕ, Bool, false, ◌+◌, ◌==◌, nat_le, if◌then◌else◌, Option, None, option_and_then, unwrap_or, List, [], ◌∷◌, length, codes, filter_map}
use Rattle.std.specs.List.{find, last_or, starts_with}
use Rattle.t1_parts.specs.declared.item.Item.{Item}
use Rattle.t1_parts.specs.declared.item.Item.TheVariants.{Plain}
use Rattle.t1_parts.specs.SourceParts.{SourceParts}
use Rattle.t1_text.specs.Tokens.{places_from}
use Rattle.t1_text.specs.Names.{name_of_token}
use Rattle.t1_parts.specs.Parts.{holds}
use Rattle.t1_parts.specs.LenIV.{plain_line}

-- profile, reading operator: where a text first stands, or the length
abbrev pub text_place : List ℕ → List ℕ → ℕ
text_place text [] = 0
text_place text (c ∷ rest) = if starts_with (λ x y. x == y) (c ∷ rest) text then 0 else 1 + text_place text rest

-- profile, reading operator: the name of a token `/NAME` that ends at this place or before it
abbrev pub name_within : ℕ → ℕ × List ℕ → Option (List ℕ)
name_within end t = if nat_le (t.0 + length t.1) end then name_of_token t.1 else None

-- profile, reading operator: the last `/NAME` that ends before the bytes `string currentfile` of a line
abbrev pub operator_on : List ℕ → Option (List ℕ)
operator_on l = last_or None (filter_map (name_within (text_place (codes "string currentfile") l)) (places_from 0 l))

-- profile, reading operator: whether an item is a plain line that holds `string currentfile`
abbrev pub reads_strings : Item → Bool
reads_strings (Plain l) = holds (codes "string currentfile") l
reads_strings _ = false

-- profile, reading operator: the one on the first such line among the items, else RD
abbrev pub operator_among : List Item → List ℕ
operator_among items = unwrap_or (option_and_then operator_on (option_and_then plain_line (find reads_strings items))) (codes "RD")

-- Type 1 Font Format, RD: the operator that the first plain line with `string currentfile` defines, else RD
abbrev pub operator : SourceParts → List ℕ
operator s = operator_among s.items
