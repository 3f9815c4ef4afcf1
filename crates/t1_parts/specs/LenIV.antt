-- lenIV: how many bytes stand in front of each charstring.
use Rattle.std.specs.Prelude.{ℕ, Bool, is_some, Option, Some, None, Result, Ok, ok_or, option_and_then, option_map, unwrap_or, List, [], ◌∷◌, codes, filter_map}
use Rattle.t1_frac.specs.declared.fault.Code.TheVariants.{F11}
use Rattle.t1_frac.specs.declared.fault.Fault.{Fault}
use Rattle.t1_frac.specs.declared.fault.Place.TheVariants.{Line}
use Rattle.t1_frac.specs.Outcome.{fault_at}
use Rattle.t1_parts.specs.declared.item.Item.{Item}
use Rattle.t1_parts.specs.declared.item.Item.TheVariants.{Plain}
use Rattle.t1_parts.specs.SourceParts.{SourceParts}
use Rattle.t1_text.specs.Tokens.{tokens, after_token}
use Rattle.t1_text.specs.Names.{decimal_of, up_to}
use Rattle.t1_parts.specs.Entries.{NumberedItem}

-- profile, lenIV: a plain line of the private part
abbrev pub plain_line : Item → Option (List ℕ)
plain_line (Plain l) = Some l
plain_line _ = None

-- profile, lenIV: what an item says of lenIV: the token after `/lenIV` on a plain line, or that there is none
abbrev pub said_lead : Item → Option (Option (List ℕ))
said_lead i = option_and_then (λ l. after_token (codes "/lenIV") (tokens l)) (plain_line i)

-- profile, lenIV: a number from 0 to 64
abbrev pub lead_of_token : Option (List ℕ) → Option ℕ
lead_of_token t = up_to 64 (option_and_then decimal_of t)

-- profile, lenIV: whether an item is a plain line with a token `/lenIV`
abbrev pub says_lead : Item → Bool
says_lead i = is_some (said_lead i)

-- profile, lenIV: what an item says of lenIV, with its line
abbrev pub said_with_line : NumberedItem → Option (ℕ × Option (List ℕ))
said_with_line i = option_map (λ t. (i.0, t)) (said_lead i.1)

-- profile, lenIV: the first line that says something decides; 4 where none does
abbrev pub lead_check : List (ℕ × Option (List ℕ)) → Result ℕ Fault
lead_check [] = Ok 4
lead_check (said ∷ more) = ok_or (lead_of_token said.1) (fault_at (Line said.0) F11)

-- profile, lenIV: the first that is said decides; 4 where none is, or where it isn't a number from 0 to 64
abbrev pub first_lead : List (Option (List ℕ)) → ℕ
first_lead [] = 4
first_lead (t ∷ ts) = unwrap_or (lead_of_token t) 4

-- profile, lenIV: the number that these items say, 4 where none does
abbrev pub lead_among : List Item → ℕ
lead_among items = first_lead (filter_map said_lead items)

-- Type 1 Font Format, lenIV: the number of leading bytes, 4 where no plain line says it
abbrev pub lead : SourceParts → ℕ
lead s = lead_among s.items
