-- Header values of a clear part.
use Rattle.std.specs.Prelude.{ℕ, Bool, not, ◌&&◌, ◌==◌, count_by, slice_index, if◌then◌else◌, Option, Some, None, option_and_then, List, [], ◌∷◌, length, take, drop, codes}
use Rattle.std.specs.List.{list_any, position_or_len, range_with_len, starts_with}
use Rattle.std.specs.Option.{option_or}
use Rattle.std.specs.Str.{bytes_eq}
use Rattle.t1_frac.specs.Ascii.{backslash, close_parenthesis, open_parenthesis, slash, space}
use Rattle.t1_frac.specs.Words.{trimmed_front}
use Rattle.t1_parts.specs.SourceParts.{SourceParts}
use Rattle.t1_text.specs.Lines.{begins_with}
use Rattle.t1_text.specs.Tokens.{tokens, first_token, token_goes_on}
use Rattle.t1_text.specs.Names.{name_of_token}

-- profile, header keys: a value, where it isn't empty
abbrev pub not_empty : List ℕ → Option (List ℕ)
not_empty [] = None
not_empty (c ∷ cs) = Some (c ∷ cs)

-- profile, header keys: a text with a blank in the place of each byte that a backslash escapes
abbrev pub escapes_blanked : List ℕ → List ℕ
escapes_blanked [] = []
escapes_blanked (c ∷ []) = c ∷ []
escapes_blanked (c ∷ d ∷ rest) = c ∷ (if c == backslash then space ∷ escapes_blanked rest else escapes_blanked (d ∷ rest))

-- profile, header keys: whether a `)` stands at a place, and before it as many `)` as `(`
abbrev pub balances : List ℕ → ℕ → Bool
balances text at =
    slice_index text at == close_parenthesis
    && count_by (λ c. c == open_parenthesis) (take at text) == count_by (λ c. c == close_parenthesis) (take at text)

-- profile, header keys: how many bytes stand before the `)` that balances, or before the end; escaped bytes count for nothing
abbrev pub before_balance : List ℕ → ℕ
before_balance text = position_or_len (balances (escapes_blanked text)) (range_with_len 0 (length text))

-- profile, header keys: a `/` and the name
abbrev pub name_value : List ℕ → Option (List ℕ)
name_value rest = option_and_then name_of_token (first_token (tokens rest))

-- profile, header keys: a `(` and the bytes as written up to the balancing `)`
abbrev pub text_value : List ℕ → Option (List ℕ)
text_value rest =
    if begins_with open_parenthesis rest then not_empty (take (before_balance (drop 1 rest)) (drop 1 rest)) else None

-- profile, header keys: one token
abbrev pub token_value : List ℕ → Option (List ℕ)
token_value rest = first_token (tokens rest)

-- profile, header keys: the bytes after `/`, the key and blanks at the front of a list, where the key ends there
abbrev pub after_key : List ℕ → List ℕ → Option (List ℕ)
after_key key [] = None
after_key key (c ∷ rest) =
    if c == slash && starts_with (λ x y. x == y) rest key && not (token_goes_on (drop (length key) rest)) then Some (trimmed_front (drop (length key) rest))
    else None

-- profile, header keys: the first line with the key decides; the bytes of it after the key
abbrev pub keyed : List ℕ → List (List ℕ) → Option (List ℕ)
keyed key [] = None
keyed key (l ∷ ls) = option_or (after_key key (trimmed_front l)) (keyed key ls)

-- Type 1 Font Format, FontInfo: the keys whose values are texts
abbrev pub text_keys : List (List ℕ)
text_keys = codes "FullName" ∷ codes "FamilyName" ∷ codes "Weight" ∷ codes "version" ∷ codes "Notice" ∷ []

-- Type 1 Font Format, FontInfo: the keys whose values are one token
abbrev pub token_keys : List (List ℕ)
token_keys = codes "ItalicAngle" ∷ codes "isFixedPitch" ∷ codes "UnderlinePosition" ∷ codes "UnderlineThickness" ∷ []

-- AFM 4.1, global font information: the value of one of the ten keys
abbrev pub header_among : List (List ℕ) → List ℕ → Option (List ℕ)
header_among clear key =
    if bytes_eq key (codes "FontName") then option_and_then name_value (keyed key clear)
    else if list_any (bytes_eq key) text_keys then option_and_then text_value (keyed key clear)
    else if list_any (bytes_eq key) token_keys then option_and_then token_value (keyed key clear)
    else None

-- profile, header keys: the value of a key in the clear part of a source
abbrev pub header : SourceParts → List ℕ → Option (List ℕ)
header s key = header_among s.clear key
