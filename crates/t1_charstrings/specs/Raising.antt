-- Section lines whose counts are raised.
use Rattle.std.specs.Prelude.{ℕ, Bool, if◌then◌else◌, List, Result, Ok, Err, flat_map}
use Rattle.std.specs.List.{list_all}
use Rattle.t1_frac.specs.declared.fault.Code.TheVariants.{F23}
use Rattle.t1_frac.specs.declared.fault.Fault.{Fault}
use Rattle.t1_frac.specs.declared.fault.Place.TheVariants.{Nowhere}
use Rattle.t1_frac.specs.Outcome.{fault_at}
use Rattle.t1_parts.specs.declared.item.Item.{Item}
use Rattle.t1_parts.specs.Counts.{raised_item}
use Rattle.t1_source.specs.WellFormed.{is_counted}
use Rattle.t1_charstrings.specs.Sums.{section_line}

-- word: the section lines with their counts raised to what is needed
abbrev pub raised_text : ℕ → ℕ → List Item → List ℕ
raised_text subrs glyphs items = flat_map (λ item. section_line (raised_item subrs glyphs item)) items

-- word: whether a count that is raised has at most nine digits
abbrev pub is_raised_counted : ℕ → ℕ → Item → Bool
is_raised_counted subrs glyphs item = is_counted (raised_item subrs glyphs item)

-- word: F23 where a count that is raised has more than nine digits
abbrev pub raised_check : ℕ → ℕ → List Item → Result (Unit {0}) Fault
raised_check subrs glyphs items = if list_all (is_raised_counted subrs glyphs) items then Ok tt else Err (fault_at Nowhere F23)
