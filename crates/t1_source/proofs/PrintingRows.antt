-- Header values, codes and printed forms of small sources.
use Rattle.std.specs.Prelude.{◌≡◌, ℕ, List, [], ◌∷◌, ◌++◌, Some, None, Ok, codes, take, refl, length}
use Rattle.std.proofs.Common.{ap, ◌∙◌}
use Rattle.std.specs.Fmt.{digits}
use Rattle.t1_frac.specs.Numbers.{is_number_word}
use Rattle.t1_frac.specs.Outcome.{◌>>=◌}
use Rattle.t1_code.specs.Encoding.{standard_names, standard_name}
use Rattle.t1_parts.specs.SourceParts.{SourceParts}
use Rattle.t1_text.specs.Lines.{joined}
use Rattle.t1_parts.specs.Encoding.{clear_check, opening_check, later_check, array_check}
use Rattle.t1_parts.specs.Entries.{subr_entry, glyph_entry}
use Rattle.t1_parts.specs.Private.{item_in_front, line_item, private_items}
use Rattle.t1_parts.specs.Parts.{parts_of, tail_of}
use Rattle.t1_parts.specs.Reading.{reads, reads_lines, whole_check}
use Rattle.t1_parts.specs.Header.{header, header_among}
use Rattle.t1_source.specs.Codes.{lowest_code, code_of}
use Rattle.t1_parts.specs.Printing.{text}
use Rattle.t1_parts.proofs.ReadingRows.{space_lines, space_form}
use Rattle.t1_parts.proofs.DemoRows.{demo_lines, demo_form, demo_read}

pub space_text : text space_form ≡ joined (space_lines ++ codes "cleartomark" ∷ [])
unfolding digits is_number_word
space_text = refl

pub space_text_length : length (text space_form) ≡ 161
unfolding digits is_number_word
space_text_length = refl

pub demo_text : text demo_form ≡ joined demo_lines
unfolding digits is_number_word
demo_text = refl

-- the demo font, read and printed, is its own text, and its text is read as the same source
pub demo_printed : (reads (joined demo_lines) >>= λ s. Ok (text s)) ≡ Ok (joined demo_lines)
demo_printed = ap (λ r. r >>= λ s. Ok (text s)) demo_read ∙ ap (λ t. Ok t) demo_text

pub demo_again : reads (text demo_form) ≡ Ok demo_form
demo_again = ap reads demo_text ∙ demo_read

-- a font with a comment in a body, blanks, leading zeros, low counts, and zeros in the tail
abbrev pub loose_lines : List (List ℕ)
loose_lines =
    take 3 space_lines
    ++ codes "/Subrs 01 array" ∷
    codes " dup 04{ 100 178 % to the top }" ∷
    codes "    rlineto return } NP  " ∷
    codes "/CharStrings 0 dict" ∷
    codes "/space { 0 250 hsbw endchar }" ∷
    codes "mark currentfile closefile " ∷
    codes "0000" ∷ []

abbrev pub neat_lines : List (List ℕ)
neat_lines =
    take 3 space_lines
    ++ codes "/Subrs 5 array" ∷
    codes "dup 4 {" ∷
    (9 ∷ codes "100 178 rlineto") ∷
    (9 ∷ codes "return") ∷
    (9 ∷ codes "} NP") ∷
    codes "/CharStrings 1 dict" ∷
    codes "/space {" ∷
    (9 ∷ codes "0 250 hsbw") ∷
    (9 ∷ codes "endchar") ∷
    (9 ∷ codes "}") ∷
    codes "mark currentfile closefile " ∷
    codes "cleartomark" ∷ []

pub loose_printed : (reads (joined loose_lines) >>= λ s. Ok (text s)) ≡ Ok (joined neat_lines)
unfolding reads reads_lines parts_of clear_check opening_check later_check array_check private_items item_in_front subr_entry glyph_entry line_item whole_check tail_of digits is_number_word
loose_printed = refl

pub neat_printed : (reads (joined neat_lines) >>= λ s. Ok (text s)) ≡ Ok (joined neat_lines)
unfolding reads reads_lines parts_of clear_check opening_check later_check array_check private_items item_in_front subr_entry glyph_entry line_item whole_check tail_of digits is_number_word
neat_printed = refl

pub neat_again : reads (joined neat_lines) ≡ reads (joined loose_lines)
unfolding reads reads_lines parts_of clear_check opening_check later_check array_check private_items item_in_front subr_entry glyph_entry line_item whole_check tail_of
neat_again = refl

pub demo_name : header demo_form (codes "FontName") ≡ Some (codes "Demo")
demo_name = refl

pub demo_full_name : header demo_form (codes "FullName") ≡ Some (codes "Demo Roman")
demo_full_name = refl

pub demo_angle : header demo_form (codes "ItalicAngle") ≡ Some (codes "0")
demo_angle = refl

pub demo_notice : header demo_form (codes "Notice") ≡ None
demo_notice = refl

-- a key that isn't among the ten
pub demo_box : header demo_form (codes "FontBBox") ≡ None
demo_box = refl

-- a text with parentheses, one that nothing balances, an empty one, and a key that goes on
pub nested_text : header_among (codes " /Notice (a (b) \\) c) x" ∷ []) (codes "Notice") ≡ Some (codes "a (b) \\) c")
nested_text = refl

pub open_text : header_among (codes "/Weight (bold  " ∷ []) (codes "Weight") ≡ Some (codes "bold  ")
open_text = refl

pub empty_text : header_among (codes "/WeightVector (a)" ∷ codes "/Weight ()" ∷ codes "/Weight (b)" ∷ []) (codes "Weight") ≡ None
empty_text = refl

pub standard_code : code_of demo_form (codes "acute") ≡ Some 194
unfolding lowest_code standard_name standard_names
standard_code = refl

pub notdef_code : code_of demo_form (codes ".notdef") ≡ None
notdef_code = refl

-- an array with these slots
abbrev pub array_form : List (List ℕ) → SourceParts
array_form slots = record space_form {
  clear = codes "%!" ∷ codes "/Encoding 256 array" ∷ codes "0 1 255 {1 index exch /.notdef put} for" ∷ (slots ++ codes "readonly def" ∷ codes "currentfile eexec" ∷ []);
}

-- the lowest code, where the later slot of a code counts
pub array_code : code_of (array_form (codes "dup 8#101/space put" ∷ codes "dup 32 /space put" ∷ codes "dup 32 /A put" ∷ [])) (codes "space") ≡ Some 65
unfolding lowest_code
array_code = refl
