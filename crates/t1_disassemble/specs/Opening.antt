-- Where an entry opens on a line of the private text.
use Rattle.std.specs.Prelude.{ℕ, ◌+◌, ◌-◌, ◌^◌, min, ◌&&◌, is_some, if◌then◌else◌, Option, None, Some, List, [], ◌∷◌, ◌++◌, length, codes}
use Rattle.std.specs.Str.{bytes_eq}
use Rattle.t1_frac.specs.Ascii.{slash}
use Rattle.t1_frac.specs.Numbers.{decimal_value}
use Rattle.t1_text.specs.Lines.{begins_with}
use Rattle.t1_text.specs.Names.{decimal_of}

-- Type 1 Font Format, 2.4 (Subrs and CharStrings): the place of an entry's first token, what the entry is called, how many bytes its charstring has, and the place where the reading operator ends
pub record Opening : Type 0 where
  pub at : ℕ
  pub name : List ℕ
  pub count : ℕ
  pub end : ℕ

-- profile: the length that digits say; no file has more bytes than 2 ^ 64 - 1
abbrev pub length_said : List ℕ → ℕ
length_said digits = min (decimal_value digits) (2 ^ 64 - 1)

-- Type 1 Font Format, 2.4 (CharStrings): the tokens `/NAME`, a count and the reading operator in a row
abbrev pub glyph_opening : List ℕ → ℕ × List ℕ → ℕ × List ℕ → ℕ × List ℕ → Option Opening
glyph_opening operator name count reads =
    if begins_with slash name.1 && is_some (decimal_of count.1) && bytes_eq reads.1 operator
    then Some (record { at = name.0; name = name.1; count = length_said count.1; end = reads.0 + length reads.1 })
    else None

-- Type 1 Font Format, 2.4 (Subrs): the tokens `dup`, a number, a count and the reading operator in a row
abbrev pub subr_opening : List ℕ → ℕ × List ℕ → ℕ × List ℕ → ℕ × List ℕ → ℕ × List ℕ → Option Opening
subr_opening operator dup number count reads =
    if bytes_eq dup.1 (codes "dup") && is_some (decimal_of number.1) && is_some (decimal_of count.1) && bytes_eq reads.1 operator
    then Some (record { at = dup.0; name = codes "dup " ++ number.1; count = length_said count.1; end = reads.0 + length reads.1 })
    else None

-- profile: the first of two, where it is something
abbrev pub or_other : Option Opening → Option Opening → Option Opening
or_other None other = other
or_other (Some opening) other = Some opening

-- profile: the Subr that three tokens and the next open
abbrev pub subr_here : List ℕ → ℕ × List ℕ → ℕ × List ℕ → ℕ × List ℕ → List (ℕ × List ℕ) → Option Opening
subr_here operator a b c [] = None
subr_here operator a b c (d ∷ more) = subr_opening operator a b c d

-- Type 1 Font Format, 2.4 (Subrs and CharStrings): the entry that the first of these tokens opens
abbrev pub opening_here : List ℕ → List (ℕ × List ℕ) → Option Opening
opening_here operator [] = None
opening_here operator (a ∷ []) = None
opening_here operator (a ∷ b ∷ []) = None
opening_here operator (a ∷ b ∷ c ∷ more) = or_other (glyph_opening operator a b c) (subr_here operator a b c more)

-- Type 1 Font Format, 2.4 (Subrs and CharStrings): the first entry that one of these tokens opens
abbrev pub first_opening : List ℕ → List (ℕ × List ℕ) → Option Opening
first_opening operator [] = None
first_opening operator (t ∷ ts) = or_other (opening_here operator (t ∷ ts)) (first_opening operator ts)
