-- Entries of a private part: Subrs and glyphs.
use Rattle.std.specs.Prelude.{slice_index, ℕ, Bool, false, not, ◌+◌, ◌&&◌, ◌==◌, if◌then◌else◌, Option, Some, None, Result, Err, ok_or, option_map, List, [], ◌∷◌, ◌++◌, codes}
use Rattle.std.specs.List.{list_all, list_any, before_first, after_first, position_or_len}
use Rattle.std.specs.Str.{bytes_eq}
use Rattle.t1_frac.specs.Ascii.{close_brace, open_brace, slash}
use Rattle.t1_frac.specs.declared.fault.Code.{Code}
use Rattle.t1_frac.specs.declared.fault.Code.TheVariants.{F7, F8, F9, F10}
use Rattle.t1_frac.specs.Outcome.{◌>>=◌}
use Rattle.t1_frac.specs.Words.{is_blank, words}
use Rattle.t1_parts.specs.declared.item.Item.{Item}
use Rattle.t1_parts.specs.declared.item.Item.TheVariants.{Subr, Glyph}
use Rattle.t1_parts.specs.declared.body.EntryBody.{EntryBody}
use Rattle.t1_text.specs.Lines.{begins_with, trimmed}
use Rattle.t1_text.specs.Tokens.{uncommented}
use Rattle.t1_text.specs.Delimiters.{is_brace, is_safe}
use Rattle.t1_text.specs.Names.{decimal_of, up_to, name_of_token}

-- profile, entries: a byte of a word: no blank, no brace and no `%`
abbrev pub is_word_byte : ℕ → Bool
is_word_byte c = not (is_blank c) && is_safe c

-- profile, entries: a word, one or more such bytes
abbrev pub is_word : List ℕ → Bool
is_word [] = false
is_word (c ∷ rest) = list_all is_word_byte (c ∷ rest)

-- profile, entries: whether a line has a brace outside its comment
abbrev pub has_brace : List ℕ → Bool
has_brace l = list_any is_brace (uncommented l)

-- profile, entries: whether the first brace of a line is `}`
abbrev pub closes : List ℕ → Bool
closes l = slice_index l (position_or_len is_brace l) == close_brace

-- profile, entries: a body with these words in front, on so many lines more
abbrev pub with_front : List (List ℕ) → ℕ → Option EntryBody → Option EntryBody
with_front ws n None = None
with_front ws n (Some b) = Some (record { words = ws ++ b.words; closing = b.closing; more = n + b.more })

-- profile, entries: a body ends at its first brace outside comments, which is `}`; the rest of that line,
-- trimmed, is the closing text
abbrev pub body_of : List (List ℕ) → Option EntryBody
body_of [] = None
body_of (l ∷ ls) =
    if has_brace l then
    (if closes l then Some (record { words = words (before_first is_brace l); closing = trimmed (after_first is_brace l); more = 0 }) else None)
    else with_front (words (uncommented l)) 1 (body_of ls)

-- profile, entries: the body that opens on the first of these lines
abbrev pub opened_body : List ℕ → List (List ℕ) → Option EntryBody
opened_body l ls = body_of (after_first (λ c. c == open_brace) l ∷ ls)

-- profile, entries: the first tokens `dup`, T, `{`, and T
abbrev pub opens_subr : List (List ℕ) → Option (List ℕ)
opens_subr (dup ∷ t ∷ brace ∷ more) = if bytes_eq dup (codes "dup") && bytes_eq brace (codes "{") then Some t else None
opens_subr _ = None

-- profile, entries: the first tokens `/NAME`, `{`, and `/NAME`
abbrev pub opens_glyph : List (List ℕ) → Option (List ℕ)
opens_glyph (name ∷ brace ∷ more) = if begins_with slash name && bytes_eq brace (codes "{") then Some name else None
opens_glyph _ = None

-- profile, entries: whether an item is the Subr of this number
abbrev pub is_subr : ℕ → Item → Bool
is_subr n (Subr m ws closing) = n == m
is_subr n _ = false

-- profile, entries: whether an item is the glyph of this name
abbrev pub is_glyph : List ℕ → Item → Bool
is_glyph g (Glyph h ws closing) = bytes_eq g h
is_glyph g _ = false

-- profile, entries: an item, and how many lines it takes after its first
abbrev pub Taken : Type 0
Taken = Item × ℕ

-- profile, entries: an item and the number of its first line
abbrev pub NumberedItem : Type 0
NumberedItem = ℕ × Item

-- profile, entries: whether one of the items passes the test
abbrev pub has_numbered : (Item → Bool) → List NumberedItem → Bool
has_numbered test items = list_any (λ i. test i.1) items

-- profile, entries: the entry with this body
abbrev pub entry_of : (List (List ℕ) → List ℕ → Item) → EntryBody → Taken
entry_of entry b = (entry b.words b.closing, b.more)

-- profile, entries: a number from 0 to 32000 that no earlier Subr has, and a finished body
unfoldable pub subr_entry : List NumberedItem → List ℕ → Option EntryBody → Result Taken Code
subr_entry earlier t body = do
  n ← ok_or (up_to 32000 (decimal_of t)) F8
  if has_numbered (is_subr n) earlier then Err F9 else ok_or (option_map (entry_of (Subr n)) body) F7

-- profile, entries: a name that no earlier glyph has, and a finished body
unfoldable pub glyph_entry : List NumberedItem → List ℕ → Option EntryBody → Result Taken Code
glyph_entry earlier t body = do
  g ← ok_or (name_of_token t) F8
  if has_numbered (is_glyph g) earlier then Err F10 else ok_or (option_map (entry_of (Glyph g)) body) F7
