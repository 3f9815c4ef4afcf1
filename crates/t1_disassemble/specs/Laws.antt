-- What laws say of files that are read back.
use Rattle.std.specs.Prelude.{◌≡◌, ◌⊎◌, ℕ, ◌<◌, ◌≤◌, ◌^◌, ◌&&◌, ◌||◌, true, false, nat_lt, not, Bool, is_none, if◌then◌else◌, List, [], ◌∷◌, ◌++◌, length, flat_map, map, codes, decimal, Result, Ok}
use Rattle.std.specs.Fmt.{signed_decimal}
use Rattle.std.specs.Str.{bytes_eq}
use Rattle.std.specs.List.{AllByRecursion, list_all, list_any}
use Rattle.t1_frac.specs.Ascii.{line_feed, slash}
use Rattle.t1_frac.specs.Numbers.{is_number_word, number_written}
use Rattle.t1_frac.specs.Outcome.{◌>>=◌}
use Rattle.t1_frac.specs.declared.fault.Code.{Code}
use Rattle.t1_text.specs.Lines.{is_line, joined, trimmed}
use Rattle.t1_text.specs.Names.{is_name}
use Rattle.t1_text.specs.Tokens.{places_from}
use Rattle.t1_code.specs.Cipher.{eexec, encrypted_words}
use Rattle.t1_code.specs.Pfb.{marker, end_of_file, entry_text, closing_text}
use Rattle.t1_parts.specs.declared.item.Item.{Item}
use Rattle.t1_parts.specs.declared.item.Item.TheVariants.{Plain, Section, Subr, Glyph}
use Rattle.t1_parts.specs.Parts.{is_closefile, is_eexec}
use Rattle.t1_parts.specs.Printing.{item_lines}
use Rattle.t1_disassemble.specs.Kinds.{plain_kind, single_sections}
use Rattle.t1_disassemble.specs.Layouts.{begins_closefile}
use Rattle.t1_disassemble.specs.Opening.{first_opening}
use Rattle.t1_disassemble.specs.PrivateText.{cut_len}
use Rattle.t1_disassemble.specs.Settings.{heads_section, opens_section, is_section_name, reading_operator, leading_bytes}
use Rattle.t1_disassemble.specs.Standing.{Standing, fresh, line_judged, entry_judged, all_kept}

-- profile: the bytes of blocks, one after another
abbrev pub blocks_bytes : List (List ℕ) → List ℕ
blocks_bytes blocks = flat_map (λ block. block) blocks

-- Technical Note 5040, 3.3: a segment has a length of four bytes
abbrev pub IsBlock : List ℕ → Type 0
IsBlock block = length block < 2 ^ 32

-- Technical Note 5040, 3.3: the last segment says so, or the file ends with it
abbrev pub IsEnd : List ℕ → Type 0
IsEnd end = (end ≡ []) ⊎ (end ≡ marker ∷ end_of_file ∷ [])

-- Type 1 Font Format, 7.2 (eexec): the clear text, the encrypted private text in binary, and the trailer, without segments
abbrev pub raw_file : List ℕ → List ℕ → List ℕ → List ℕ
raw_file clear private trailer = clear ++ (eexec private ++ trailer)

-- profile: numbers that bytes hold
abbrev pub AreBytes : List ℕ → Type 0
AreBytes bytes = AllByRecursion (λ byte. byte < 256) bytes

-- profile: a word as it comes back: a number word in its one plain spelling, any other as it is
abbrev pub plain_word : List ℕ → List ℕ
plain_word w = if is_number_word w then signed_decimal (number_written w) else w

-- profile: an item as it comes back
abbrev pub plain_item : Item → Item
plain_item (Plain line) = Plain line
plain_item (Section before count after) = Section before count after
plain_item (Subr number words closing) = Subr number (map plain_word words) closing
plain_item (Glyph name words closing) = Glyph name (map plain_word words) closing

-- Type 1 Font Format, Chapter 2: the text of an item in an assembled font, or the fault of its words
abbrev pub item_text : ℕ → List ℕ → Item → Result (List ℕ) Code
item_text lead operator (Plain line) = Ok (line ++ line_feed ∷ [])
item_text lead operator (Section before count after) = Ok ((before ++ decimal count ++ after) ++ line_feed ∷ [])
item_text lead operator (Subr number words closing) = encrypted_words lead words >>= λ code. Ok (entry_text (codes "dup " ++ decimal number) operator code closing)
item_text lead operator (Glyph name words closing) = encrypted_words lead words >>= λ code. Ok (entry_text (slash ∷ name) operator code closing)

-- Type 1 Font Format, Chapter 2: the texts of items, one after another
abbrev pub items_text : ℕ → List ℕ → List Item → Result (List ℕ) Code
items_text lead operator [] = Ok []
items_text lead operator (item ∷ items) = item_text lead operator item >>= λ text. items_text lead operator items >>= λ texts. Ok (text ++ texts)

-- profile: whether a section's name is a token of a line
abbrev pub names_section : List ℕ → Bool
names_section line = list_any (λ t. is_section_name t.1) (places_from 0 line)

-- profile: whether a line that names a section is a section line, so that no head goes on with the next line
abbrev pub fits : List ℕ → Bool
fits line = not (names_section line) || heads_section line

-- profile: whether a line, or a closing text after its space, reads as itself: it has no line end, opens no entry of a font, doesn't
-- close the encrypted part, doesn't end as the first of two lines does that a source has as one, and names no section unless it is a
-- section line, of which nothing is cut off
abbrev pub reads_line : List ℕ → List ℕ → Bool
reads_line operator line =
    is_line line
    && is_none (first_opening operator (places_from 0 line))
    && not (is_closefile line)
    && not (begins_closefile line)
    && fits line
    && is_none (cut_len false line)

-- profile: whether a closing text does, and has no blanks at its ends
abbrev pub reads_closing : List ℕ → List ℕ → Bool
reads_closing operator closing =
    bytes_eq (trimmed closing) closing && reads_line operator (closing_text closing) && is_none (cut_len true (closing_text closing))

-- profile: whether an item of an assembled font reads as itself
abbrev pub reads_item : List ℕ → Item → Bool
reads_item operator (Plain line) = reads_line operator line
reads_item operator (Section before count after) = reads_line operator (before ++ decimal count ++ after)
reads_item operator (Subr number words closing) = nat_lt number (2 ^ 64) && reads_closing operator closing
reads_item operator (Glyph name words closing) = is_name name && reads_closing operator closing

-- profile, sections: what a reader of the source makes of an item of an assembled font
abbrev pub item_judged : List ℕ → ℕ → Standing → Item → Standing
item_judged operator lead s (Plain line) = line_judged operator lead false s line
item_judged operator lead s (Section before count after) = line_judged operator lead false s (before ++ decimal count ++ after)
item_judged operator lead s (Subr number words closing) = line_judged operator lead true (entry_judged operator lead false s [] (codes "dup " ++ decimal number)) (closing_text closing)
item_judged operator lead s (Glyph name words closing) = line_judged operator lead true (entry_judged operator lead false s [] (slash ∷ name)) (closing_text closing)

-- profile, sections: what it makes of items, one after another
abbrev pub items_judged : List ℕ → ℕ → Standing → List Item → Standing
items_judged operator lead s [] = s
items_judged operator lead s (item ∷ items) = items_judged operator lead (item_judged operator lead s item) items

-- profile: the lines of items through the first section line, before which no entry stands
abbrev pub front_lines : List Item → List (List ℕ)
front_lines [] = []
front_lines (Plain line ∷ items) = line ∷ front_lines items
front_lines (Section before count after ∷ items) = (before ++ decimal count ++ after) ∷ []
front_lines (Subr number words closing ∷ items) = []
front_lines (Glyph name words closing ∷ items) = []

-- profile: the reading operator and lenIV of an assembled font are said before its first section, as a reader of the file wants it
pub record AreSaid (operator : List ℕ) (lead : ℕ) (items : List Item) : Type 0 where
  pub name : is_name operator ≡ true
  pub small : lead ≤ 64
  pub section : list_any opens_section (front_lines items) ≡ true
  pub reads : reading_operator (front_lines items) ≡ operator
  pub leads : leading_bytes (front_lines items) ≡ Ok lead

-- profile: the clear text ends with its first eexec line
pub record EndsWithEexec (clear : List (List ℕ)) : Type 0 where
  pub before : List (List ℕ)
  pub eexec : List ℕ
  pub whole : clear ≡ before ++ eexec ∷ []
  pub lines : list_all is_line clear ≡ true
  pub none : list_any is_eexec before ≡ false
  pub ends : is_eexec eexec ≡ true

-- profile: the line that closes the encrypted part reads as itself, and closes it
pub record IsLast (operator last : List ℕ) : Type 0 where
  pub line : is_line last ≡ true
  pub none : is_none (first_opening operator (places_from 0 last)) ≡ true
  pub closes : is_closefile last ≡ true
  pub fit : fits last ≡ true
  pub uncut : is_none (cut_len false last) ≡ true

-- profile: the lines of items and of the line that closes the encrypted part, in the source that comes back
abbrev pub source_lines : List Item → List ℕ → List (List ℕ)
source_lines items last = flat_map item_lines (map plain_item items) ++ last ∷ []

-- profile: a source whose file is read back: all of it is a test
pub record IsReadBack (clear : List (List ℕ)) (operator : List ℕ) (lead : ℕ) (items : List Item) (last : List ℕ) : Type 0 where
  pub front : EndsWithEexec clear
  pub said : AreSaid operator lead items
  pub each : list_all (reads_item operator) items ≡ true
  pub end : IsLast operator last
  pub kind : plain_kind (joined clear) ≡ Ok (joined clear)
  pub kept : all_kept (line_judged operator lead false (items_judged operator lead (fresh operator lead) items) last) ≡ Ok tt
  pub single : single_sections (joined (source_lines items last)) ≡ Ok (joined (source_lines items last))
