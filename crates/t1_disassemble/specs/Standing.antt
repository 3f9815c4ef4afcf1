-- What a reader of the source makes of the private lines that are written: where it stands among the sections, and which entry of
-- the font it would lose, or read where the font has none.
use Rattle.std.specs.Prelude.{ℕ, ◌&&◌, ◌||◌, not, nat_lt, is_some, Bool, true, false, ◌==◌, if◌then◌else◌, Option, None, Some, option_map, unwrap_or, List, [], ◌∷◌, ◌++◌, take, drop, codes, Result, Ok, Err}
use Rattle.std.specs.Str.{bytes_eq}
use Rattle.t1_frac.specs.Ascii.{slash}
use Rattle.t1_text.specs.Lines.{begins_with}
use Rattle.t1_text.specs.Names.{decimal_of}
use Rattle.t1_text.specs.Tokens.{tokens, places_from}
use Rattle.t1_parts.specs.declared.item.Item.{Item}
use Rattle.t1_parts.specs.declared.item.Item.TheVariants.{Section}
use Rattle.t1_parts.specs.Entries.{opens_subr, opens_glyph}
use Rattle.t1_parts.specs.LenIV.{lead_of_token}
use Rattle.t1_parts.specs.Operator.{operator_on}
use Rattle.t1_parts.specs.Parts.{holds, is_closefile}
use Rattle.t1_parts.specs.Sections.{subrs_line, glyphs_line}
use Rattle.t1_disassemble.specs.declared.fault.FontCode.TheVariants.{D14, D15, D16, D17}
use Rattle.t1_disassemble.specs.declared.fault.FontFault.{FontFault}
use Rattle.t1_disassemble.specs.declared.fault.FontPlace.{FontPlace}
use Rattle.t1_disassemble.specs.declared.fault.FontPlace.TheVariants.{Nowhere, Entry}
use Rattle.t1_disassemble.specs.declared.standing.Part.{Part}
use Rattle.t1_disassemble.specs.declared.standing.Part.TheVariants.{Front, Subrs, Glyphs, Misplaced}
use Rattle.t1_disassemble.specs.Cuts.{pieces}
use Rattle.t1_disassemble.specs.Front.{front_line}
use Rattle.t1_disassemble.specs.Opening.{Opening, first_opening}
use Rattle.t1_disassemble.specs.Outcome.{font_fault_at}
use Rattle.t1_disassemble.specs.PrivateText.{source_line, cut_len, piece_left}
use Rattle.t1_disassemble.specs.Settings.{said_on}

-- profile: whether a source has said something, and whether what it says is other than what the font was read by
pub record Said : Type 0 where
  pub is_said : Bool
  pub is_other : Bool

-- profile, sections: the part in which a source's lines stand, whether a section whose count is over 0 has no entry so far, what is
-- said of the reading operator and of lenIV, and the name of the first entry that would be lost, which may be unknown
pub record Standing : Type 0 where
  pub part : Part
  pub lacks_subrs : Bool
  pub lacks_glyphs : Bool
  pub reads : Said
  pub leads : Said
  pub lost : Option (List ℕ)

-- profile, sections: before the first line of a font that is read by this operator and this lenIV; where nothing is said they are RD and 4
abbrev pub fresh : List ℕ → ℕ → Standing
fresh operator lead = record {
  part = Front;
  lacks_subrs = false;
  lacks_glyphs = false;
  reads = record { is_said = false; is_other = not (bytes_eq operator (codes "RD")) };
  leads = record { is_said = false; is_other = not (lead == 4) };
  lost = None;
}

-- profile, faults: the first of two entries that would be lost
abbrev pub first_lost : Option (List ℕ) → List ℕ → Option (List ℕ)
first_lost None name = Some name
first_lost (Some first) name = Some first

-- profile, faults: an entry would be lost
abbrev pub losing : List ℕ → Standing → Standing
losing name s =
    record { part = s.part; lacks_subrs = s.lacks_subrs; lacks_glyphs = s.lacks_glyphs; reads = s.reads; leads = s.leads; lost = first_lost s.lost name }

-- profile, faults: the same, where there is one
abbrev pub losing_maybe : Option (List ℕ) → Standing → Standing
losing_maybe None s = s
losing_maybe (Some name) s = losing name s

-- profile, entries: the entry for which the reader takes a line that opens none in the font
abbrev pub taken_for : Part → List ℕ → Option (List ℕ)
taken_for Subrs l = option_map (λ t. codes "dup " ++ t) (opens_subr (tokens l))
taken_for Glyphs l = opens_glyph (tokens l)
taken_for Front l = None
taken_for Misplaced l = None

-- profile, entries: what an entry is called whose head may go on with these tokens: by a token `/NAME`, or by `dup` and the next
abbrev pub called : List ℕ → List ℕ → List (List ℕ) → List ℕ
called name t [] = if begins_with slash t then t else name
called name t (u ∷ us) = if begins_with slash t then t else (if bytes_eq t (codes "dup") then codes "dup " ++ u else name)

-- profile: whether a word is no reading operator, though it may stand behind a name and a number
abbrev pub is_no_reader : List ℕ → Bool
is_no_reader w = bytes_eq w (codes "def") || bytes_eq w (codes "array") || bytes_eq w (codes "dict")

-- Type 1 Font Format, 2.4 (CharStrings): whether a name goes on with a length and a word, as a glyph does whatever reads it
abbrev pub is_like_glyph : List ℕ → List (List ℕ) → Bool
is_like_glyph t [] = false
is_like_glyph t (n ∷ []) = false
is_like_glyph t (n ∷ w ∷ more) = begins_with slash t && is_some (decimal_of n) && not (is_no_reader w)

-- Type 1 Font Format, 2.4 (Subrs): whether `dup` goes on with a number, a length and a word, as a Subr does whatever reads it
abbrev pub is_like_subr : List ℕ → List (List ℕ) → Bool
is_like_subr t [] = false
is_like_subr t (n ∷ []) = false
is_like_subr t (n ∷ m ∷ []) = false
is_like_subr t (n ∷ m ∷ w ∷ more) = bytes_eq t (codes "dup") && is_some (decimal_of n) && is_some (decimal_of m) && not (is_no_reader w)

-- Type 1 Font Format, 2.4 (Subrs and CharStrings): whether tokens are like an entry of the section in which they stand
abbrev pub is_like_entry : Part → List ℕ → List (List ℕ) → Bool
is_like_entry Front t ts = false
is_like_entry Subrs t ts = is_like_subr t ts
is_like_entry Glyphs t ts = is_like_glyph t ts
is_like_entry Misplaced t ts = false

-- Type 1 Font Format, 2.4 (RD): what the entry is called whose reading operator is among these tokens, which are no entry's head; or
-- the entry that they are like
abbrev pub read_outside : List ℕ → Part → List ℕ → List (List ℕ) → Option (List ℕ)
read_outside operator part name [] = None
read_outside operator part name (t ∷ ts) =
    if bytes_eq t operator then Some name
    else (if is_like_entry part t ts then Some (called name t ts) else read_outside operator part (called name t ts) ts)

-- profile, faults: a line that holds a reading operator outside each entry's head, or tokens like an entry
abbrev pub outside_judged : List ℕ → Standing → List ℕ → Standing
outside_judged operator s l = losing_maybe (read_outside operator s.part [] (tokens l)) s

-- profile, sections: whether the count of a section line is over 0
abbrev pub is_over_zero : Item → Bool
is_over_zero (Section before count after) = nat_lt 0 count
is_over_zero _ = false

-- profile, sections: whether the count is over 0 where a line is a section line of this kind
abbrev pub wanted : (List ℕ → Option Item) → List ℕ → Option Bool
wanted kind l = option_map is_over_zero (kind l)

-- profile, sections: in another part
abbrev pub in_part : Part → Standing → Standing
in_part part s =
    record { part = part; lacks_subrs = s.lacks_subrs; lacks_glyphs = s.lacks_glyphs; reads = s.reads; leads = s.leads; lost = s.lost }

-- profile, sections: behind the Subrs line, which stands before the CharStrings line
abbrev pub among_subrs : Part → Standing → Bool → Standing
among_subrs Front s lacks = record { part = Subrs; lacks_subrs = lacks; lacks_glyphs = s.lacks_glyphs; reads = s.reads; leads = s.leads; lost = s.lost }
among_subrs Subrs s lacks = in_part Misplaced s
among_subrs Glyphs s lacks = in_part Misplaced s
among_subrs Misplaced s lacks = in_part Misplaced s

-- profile, sections: behind the CharStrings line
abbrev pub among_glyphs : Part → Standing → Bool → Standing
among_glyphs Front s lacks = record { part = Glyphs; lacks_subrs = s.lacks_subrs; lacks_glyphs = lacks; reads = s.reads; leads = s.leads; lost = s.lost }
among_glyphs Subrs s lacks = record { part = Glyphs; lacks_subrs = s.lacks_subrs; lacks_glyphs = lacks; reads = s.reads; leads = s.leads; lost = s.lost }
among_glyphs Glyphs s lacks = in_part Misplaced s
among_glyphs Misplaced s lacks = in_part Misplaced s

-- profile: what was said first counts
abbrev pub first_said : Said → Option Bool → Said
first_said said None = said
first_said said (Some other) = if said.is_said then said else record { is_said = true; is_other = other }

-- profile, reading operator: whether a line of the source says another operator
abbrev pub other_operator : List ℕ → List ℕ → Option Bool
other_operator operator l = if holds (codes "string currentfile") l then Some (not (bytes_eq (unwrap_or (operator_on l) (codes "RD")) operator)) else None

-- profile, lenIV: whether a line of the source says another number
abbrev pub other_lead : ℕ → List ℕ → Option Bool
other_lead lead l = option_map (λ t. not (unwrap_or (lead_of_token t) 4 == lead)) (said_on l)

-- profile, sections: behind a line that says something or nothing of the reading operator and lenIV
abbrev pub said_judged : List ℕ → ℕ → Standing → List ℕ → Standing
said_judged operator lead s l =
    record { part = s.part; lacks_subrs = s.lacks_subrs; lacks_glyphs = s.lacks_glyphs; reads = first_said s.reads (other_operator operator l); leads = first_said s.leads (other_lead lead l); lost = s.lost }

-- profile, sections: behind a section line; what it says of the reading operator or lenIV no reader of the source hears
abbrev pub unheard : Standing → List ℕ → Standing
unheard s l =
    record { part = s.part; lacks_subrs = s.lacks_subrs; lacks_glyphs = s.lacks_glyphs; reads = first_said s.reads (if holds (codes "string currentfile") l then Some true else None); leads = first_said s.leads (option_map (λ t. true) (said_on l)); lost = s.lost }

-- profile, sections: behind a line, which may be a section line
abbrev pub entered : List ℕ → ℕ → Standing → List ℕ → Option Bool → Option Bool → Standing
entered operator lead s l None None = said_judged operator lead s l
entered operator lead s l (Some lacks) None = among_subrs s.part (unheard s l) lacks
entered operator lead s l None (Some lacks) = among_glyphs s.part (unheard s l) lacks
entered operator lead s l (Some subrs) (Some glyphs) = in_part Misplaced s

-- profile, sections: a line of the source that is no closing text
abbrev pub plain_judged : List ℕ → ℕ → Standing → List ℕ → Standing
plain_judged operator lead s l = outside_judged operator (entered operator lead (losing_maybe (taken_for s.part l) s) l (wanted subrs_line l) (wanted glyphs_line l)) l

-- profile, sections: a line, or the closing text of an entry that waits for it; the line that closes the encrypted part opens nothing
abbrev pub line_judged : List ℕ → ℕ → Bool → Standing → List ℕ → Standing
line_judged operator lead waits s l =
    if waits then outside_judged operator s l
    else (if is_closefile l then outside_judged operator (said_judged operator lead s l) l else plain_judged operator lead s l)

-- profile, layouts: what is cut off before a section's name, which doesn't close the encrypted part
abbrev pub front_judged : List ℕ → ℕ → Bool → Standing → List ℕ → Standing
front_judged operator lead waits s front =
    if is_closefile front then losing [] (line_judged operator lead waits s front) else line_judged operator lead waits s front

-- profile, layouts: the same, and the section line
abbrev pub cut_judged : List ℕ → ℕ → Bool → Standing → List ℕ → Option ℕ → Standing
cut_judged operator lead waits s l None = line_judged operator lead waits s l
cut_judged operator lead waits s l (Some n) =
    line_judged operator lead false (front_judged operator lead waits s (take n l)) (drop n l)

-- profile, layouts: a line with what stands before a section's name on it cut off, where that has to be
abbrev pub text_judged : List ℕ → ℕ → Bool → Standing → List ℕ → Standing
text_judged operator lead waits s l = cut_judged operator lead waits s l (cut_len waits l)

-- profile, entries: whether a source may have an entry of this name in a part
abbrev pub may_stand : Part → List ℕ → Bool
may_stand Front name = false
may_stand Subrs name = not (begins_with slash name)
may_stand Glyphs name = begins_with slash name
may_stand Misplaced name = true

-- profile, entries: an entry, which its section doesn't lack any more
abbrev pub entry_stands : List ℕ → Standing → Standing
entry_stands name s =
    record { part = s.part; lacks_subrs = s.lacks_subrs && begins_with slash name; lacks_glyphs = s.lacks_glyphs && not (begins_with slash name); reads = s.reads; leads = s.leads; lost = if may_stand s.part name then s.lost else first_lost s.lost name }

-- profile, entries: an entry behind what stands on a line before it, which doesn't close the encrypted part
abbrev pub entry_judged : List ℕ → ℕ → Bool → Standing → List ℕ → List ℕ → Standing
entry_judged operator lead waits s front name =
    entry_stands name (if is_closefile front then losing name (text_judged operator lead waits s front) else text_judged operator lead waits s front)

-- profile: a piece of the private text
abbrev pub piece_judged : List ℕ → ℕ → Bool → Standing → List ℕ → Option Opening → Standing
piece_judged operator lead waits s bytes None = text_judged operator lead waits s (source_line operator bytes)
piece_judged operator lead waits s bytes (Some o) = entry_judged operator lead waits s (take o.at bytes) o.name

-- profile: whether a piece closes the encrypted part
abbrev pub is_closing_piece : List ℕ → List ℕ → Option Opening → Bool
is_closing_piece operator bytes None = is_closefile (source_line operator bytes)
is_closing_piece operator bytes (Some o) = false

-- profile: a piece, and those after it, where it isn't the last
abbrev pub then_judged : (Bool → Standing → Standing) → List ℕ → ℕ → Bool → Standing → List ℕ → Option Opening → Standing
then_judged others operator lead waits s bytes opening =
    if is_closing_piece operator bytes opening then piece_judged operator lead waits s bytes opening
    else others (is_some opening) (piece_judged operator lead waits s bytes opening)

-- Type 1 Font Format, 2.4: the pieces that begin at these places, through the one that closes the encrypted part
abbrev pub pieces_judged : List ℕ → ℕ → List (List ℕ) → Bool → Standing → Standing
pieces_judged operator lead [] waits s = s
pieces_judged operator lead (from ∷ others) waits s =
    then_judged (pieces_judged operator lead others) operator lead waits s from (first_opening operator (places_from 0 (front_line from)))

-- Type 1 Font Format, 2.4: the private text, at the front of which an entry may wait for its closing text
unfoldable pub judged : List ℕ → ℕ → List ℕ → Bool → Standing → Standing
judged operator lead bytes waits s = pieces_judged operator lead (pieces (piece_left operator) bytes) waits s

-- profile, faults: the place of an entry whose name may be unknown
abbrev pub lost_place : List ℕ → FontPlace
lost_place [] = Nowhere
lost_place (c ∷ name) = Entry (c ∷ name)

-- profile, faults: the first fault of what was judged, where no entry would be lost
abbrev pub held : Bool → Bool → Bool → Result (Unit {0}) FontFault
held subrs glyphs other =
    if subrs then Err (font_fault_at Nowhere D15) else (if glyphs then Err (font_fault_at Nowhere D16) else (if other then Err (font_fault_at Nowhere D17) else Ok tt))

-- profile, faults: the first fault of what was judged
abbrev pub kept : Option (List ℕ) → Bool → Bool → Bool → Result (Unit {0}) FontFault
kept (Some name) subrs glyphs other = Err (font_fault_at (lost_place name) D14)
kept None subrs glyphs other = held subrs glyphs other

-- profile, faults: the same, of all lines of a source
unfoldable pub all_kept : Standing → Result (Unit {0}) FontFault
all_kept s = kept s.lost s.lacks_subrs s.lacks_glyphs (s.reads.is_other || s.leads.is_other)

-- profile, faults: whether all entries of a private text that is read by this operator and this lenIV come into the source
abbrev pub stands : List ℕ → ℕ → List ℕ → Result (Unit {0}) FontFault
stands operator lead plain = all_kept (judged operator lead plain false (fresh operator lead))
