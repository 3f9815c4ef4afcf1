-- The PFB file of a source.
use Rattle.std.specs.Prelude.{ℕ, if◌then◌else◌, List, [], ◌∷◌, ◌++◌, Result, Ok, Err, codes, decimal, replicate}
use Rattle.std.specs.List.{list_all}
use Rattle.t1_frac.specs.Ascii.{digit_zero, line_feed, slash}
use Rattle.t1_frac.specs.declared.fault.Code.TheVariants.{F23}
use Rattle.t1_frac.specs.declared.fault.Fault.{Fault}
use Rattle.t1_frac.specs.declared.fault.Place.{Place}
use Rattle.t1_frac.specs.declared.fault.Place.TheVariants as places
use Rattle.t1_frac.specs.Outcome.{fault_at, reported_at, ◌>>=◌}
use Rattle.t1_parts.specs.declared.item.Item.{Item}
use Rattle.t1_parts.specs.declared.item.Item.TheVariants.{Plain, Section, Subr, Glyph}
use Rattle.t1_parts.specs.SourceParts.{SourceParts}
use Rattle.t1_text.specs.Lines.{joined}
use Rattle.t1_parts.specs.LenIV.{lead}
use Rattle.t1_parts.specs.Operator.{operator}
use Rattle.t1_source.specs.WellFormed.{is_counted}
use Rattle.t1_code.specs.Words.{commands}
use Rattle.t1_code.specs.Charstring.{charstring}
use Rattle.t1_code.specs.Cipher.{encrypted_charstring}
use Rattle.t1_code.specs.Pfa.{pfa_of}
use Rattle.t1_code.specs.Pfb.{entry_text, pfb_of, whole_file}

-- Type 1 Font Format, Chapter 2: an entry's line, with its body's encrypted charstring; or the body's fault, at the entry
unfoldable pub entry_line : ℕ → List ℕ → Place → List ℕ → List (List ℕ) → List ℕ → Result (List ℕ) Fault
entry_line lead operator place head words closing =
    reported_at place (commands words) >>= λ body. Ok (entry_text head operator (encrypted_charstring lead (charstring body)) closing)

-- Type 1 Font Format, Chapter 2: the line of an item of the private part
abbrev pub item_line : ℕ → List ℕ → Item → Result (List ℕ) Fault
item_line lead operator (Plain line) = Ok (line ++ line_feed ∷ [])
item_line lead operator (Section before count after) = Ok (before ++ decimal count ++ after ++ line_feed ∷ [])
item_line lead operator (Subr number words closing) = entry_line lead operator (places.Subr number) (codes "dup " ++ decimal number) words closing
item_line lead operator (Glyph name words closing) = entry_line lead operator (places.Glyph name) (slash ∷ name) words closing

-- profile: the private text of the items, or the first fault of their bodies; in a source the Subrs stand before the glyphs
abbrev pub private_text : ℕ → List ℕ → List Item → Result (List ℕ) Fault
private_text lead operator [] = Ok []
private_text lead operator (item ∷ items) =
    item_line lead operator item >>= λ line. private_text lead operator items >>= λ rest. Ok (line ++ rest)

-- Type 1 Font Format, Chapter 2: 512 zeros in eight lines, and the lines after them
abbrev pub trailer_text : List (List ℕ) → List ℕ
trailer_text tail = joined (replicate 8 (replicate 64 digit_zero) ++ tail)

-- Type 1 Font Format, Chapter 2: the file of a source, in the form that makes it of its clear text, its private text and its trailer; or the first fault of its bodies
abbrev pub file_in : (List ℕ → List ℕ → List ℕ → Result (List ℕ) Fault) → SourceParts → Result (List ℕ) Fault
file_in form source =
    private_text (lead source) (operator source) source.items >>= λ private. form (joined source.clear) private (trailer_text source.tail)

-- profile: the PFB file of a source in blocks of this size, or the first fault of its bodies, or F23
unfoldable pub source_file : ℕ → SourceParts → Result (List ℕ) Fault
source_file size source = file_in (pfb_of size) source

-- profile: the PFA file of a source, or the first fault of its bodies, or F23
unfoldable pub source_pfa : SourceParts → Result (List ℕ) Fault
source_pfa source = file_in pfa_of source

-- profile: the first fault of the bodies, or F23 where a part of the PFB file is too long
unfoldable pub length_check : SourceParts → Result (Unit {0}) Fault
length_check source = source_file whole_file source >>= λ file. Ok tt

-- profile: F23 where a section's count has more than nine digits, which its text couldn't say
abbrev pub counts_check : List Item → Result (Unit {0}) Fault
counts_check items = if list_all is_counted items then Ok tt else Err (fault_at places.Nowhere F23)

-- profile: whether a source has its PFB file and a text: the first fault of its bodies, or F23
unfoldable pub file_check : SourceParts → Result (Unit {0}) Fault
file_check source = length_check source >>= λ checked. counts_check source.items
