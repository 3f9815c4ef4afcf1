-- Small sources, read by the definitions.
use Rattle.std.specs.Prelude.{◌≡◌, ℕ, List, [], ◌∷◌, ◌++◌, Ok, Err, codes, refl, drop, take, flat_map}
use Rattle.t1_frac.specs.declared.fault.Code.TheVariants.{F1, F2, F3, F4, F5, F6, F7, F8, F9, F10, F11}
use Rattle.t1_frac.specs.declared.fault.Place.TheVariants.{Nowhere, Line}
use Rattle.t1_frac.specs.Outcome.{fault_at}
use Rattle.t1_parts.specs.declared.item.Item.TheVariants.{Plain, Section, Glyph}
use Rattle.t1_parts.specs.SourceParts.{SourceParts}
use Rattle.t1_text.specs.Lines.{lines, joined}
use Rattle.t1_parts.specs.Encoding.{clear_check, opening_check, later_check, array_check}
use Rattle.t1_parts.specs.Entries.{subr_entry, glyph_entry}
use Rattle.t1_parts.specs.Private.{item_in_front, line_item, private_items}
use Rattle.t1_parts.specs.Parts.{parts_of, tail_of}
use Rattle.t1_parts.specs.Reading.{reads, reads_lines, whole_check}

abbrev pub space_lines : List (List ℕ)
space_lines =
    codes "%!"
    ∷ codes "/Encoding StandardEncoding def"
    ∷ codes "currentfile eexec"
    ∷ codes "/CharStrings 1 dict dup begin"
    ∷ codes "/space {"
    ∷ (9 ∷ codes "0 250 hsbw")
    ∷ (9 ∷ codes "endchar")
    ∷ (9 ∷ codes "} ND")
    ∷ codes "end"
    ∷ codes "mark currentfile closefile"
    ∷ []

abbrev pub space_form : SourceParts
space_form = record {
  clear = codes "%!" ∷ codes "/Encoding StandardEncoding def" ∷ codes "currentfile eexec" ∷ [];
  items =
      Section (codes "/CharStrings ") 1 (codes " dict dup begin")
      ∷ Glyph (codes "space") (codes "0" ∷ codes "250" ∷ codes "hsbw" ∷ codes "endchar" ∷ []) (codes "ND")
      ∷ Plain (codes "end")
      ∷ Plain (codes "mark currentfile closefile")
      ∷ [];
  tail = codes "cleartomark" ∷ [];
}

-- the lines of the small font
pub space_lines_of : lines (joined space_lines) ≡ space_lines
space_lines_of = refl

-- the small font, read
pub space_read : reads (joined space_lines) ≡ Ok space_form
unfolding reads reads_lines parts_of clear_check opening_check later_check array_check private_items item_in_front subr_entry glyph_entry line_item whole_check tail_of
space_read = refl

-- with CR LF and with CR throughout
pub crlf_read : reads (flat_map (λ l. l ++ 13 ∷ 10 ∷ []) space_lines) ≡ Ok space_form
unfolding reads reads_lines parts_of clear_check opening_check later_check array_check private_items item_in_front subr_entry glyph_entry line_item whole_check tail_of
crlf_read = refl

pub cr_read : reads (flat_map (λ l. l ++ 13 ∷ []) space_lines) ≡ Ok space_form
unfolding reads reads_lines parts_of clear_check opening_check later_check array_check private_items item_in_front subr_entry glyph_entry line_item whole_check tail_of
cr_read = refl

-- an empty source
pub empty_read : reads [] ≡ Err (fault_at Nowhere F1)
unfolding reads reads_lines parts_of clear_check opening_check later_check array_check private_items item_in_front subr_entry glyph_entry line_item whole_check tail_of
empty_read = refl

-- without the closefile line
pub cut_read : reads (joined (take 9 space_lines)) ≡ Err (fault_at Nowhere F2)
unfolding reads reads_lines parts_of clear_check opening_check later_check array_check private_items item_in_front subr_entry glyph_entry line_item whole_check tail_of
cut_read = refl

-- without the CharStrings line
pub no_glyphs_read : reads (joined (take 3 space_lines ++ drop 4 space_lines)) ≡ Err (fault_at Nowhere F3)
unfolding reads reads_lines parts_of clear_check opening_check later_check array_check private_items item_in_front subr_entry glyph_entry line_item whole_check tail_of
no_glyphs_read = refl

-- the CharStrings line twice
pub section_twice_read : reads (joined (take 4 space_lines ++ drop 3 space_lines)) ≡ Err (fault_at (Line 5) F4)
unfolding reads reads_lines parts_of clear_check opening_check later_check array_check private_items item_in_front subr_entry glyph_entry line_item whole_check tail_of
section_twice_read = refl

-- another encoding, none, and an array without its end
pub other_encoding_read : reads (joined (codes "/Encoding ISOLatin1Encoding def" ∷ drop 2 space_lines)) ≡ Err (fault_at (Line 1) F5)
unfolding reads reads_lines parts_of clear_check opening_check later_check array_check private_items item_in_front subr_entry glyph_entry line_item whole_check tail_of
other_encoding_read = refl

pub no_encoding_read : reads (joined (codes "%!" ∷ drop 2 space_lines)) ≡ Err (fault_at Nowhere F5)
unfolding reads reads_lines parts_of clear_check opening_check later_check array_check private_items item_in_front subr_entry glyph_entry line_item whole_check tail_of
no_encoding_read = refl

pub open_array_read : reads (joined (codes "%!" ∷ codes "/Encoding 256 array" ∷ codes "dup x" ∷ drop 2 space_lines)) ≡ Err (fault_at (Line 2) F5)
unfolding reads reads_lines parts_of clear_check opening_check later_check array_check private_items item_in_front subr_entry glyph_entry line_item whole_check tail_of
open_array_read = refl

-- a slot past 255
pub bad_slot_read : reads (joined (codes "/Encoding 256 array" ∷ codes "dup 256 /A put" ∷ codes "readonly def" ∷ drop 2 space_lines)) ≡ Err (fault_at (Line 2) F6)
unfolding reads reads_lines parts_of clear_check opening_check later_check array_check private_items item_in_front subr_entry glyph_entry line_item whole_check tail_of
bad_slot_read = refl

-- without the line `} ND`
pub unfinished_read : reads (joined (take 7 space_lines ++ drop 8 space_lines)) ≡ Err (fault_at (Line 5) F7)
unfolding reads reads_lines parts_of clear_check opening_check later_check array_check private_items item_in_front subr_entry glyph_entry line_item whole_check tail_of
unfinished_read = refl

-- an empty name, which comes before an unfinished body
pub empty_name_read : reads (joined (take 4 space_lines ++ codes "/ {" ∷ drop 8 space_lines)) ≡ Err (fault_at (Line 5) F8)
unfolding reads reads_lines parts_of clear_check opening_check later_check array_check private_items item_in_front subr_entry glyph_entry line_item whole_check tail_of
empty_name_read = refl

-- the same Subr twice, which comes before an unfinished body
pub subr_twice_read : reads (joined (take 3 space_lines ++ codes "/Subrs 1 array" ∷ codes "dup 0 { } NP" ∷ codes "dup 00 {" ∷ drop 3 space_lines)) ≡ Err (fault_at (Line 6) F9)
unfolding reads reads_lines parts_of clear_check opening_check later_check array_check private_items item_in_front subr_entry glyph_entry line_item whole_check tail_of
subr_twice_read = refl

-- the same glyph twice
pub glyph_twice_read : reads (joined (take 8 space_lines ++ take 4 (drop 4 space_lines) ++ drop 8 space_lines)) ≡ Err (fault_at (Line 9) F10)
unfolding reads reads_lines parts_of clear_check opening_check later_check array_check private_items item_in_front subr_entry glyph_entry line_item whole_check tail_of
glyph_twice_read = refl

-- lenIV past 64, and without a number
pub far_lead_read : reads (joined (take 3 space_lines ++ codes "/lenIV 65 def" ∷ drop 3 space_lines)) ≡ Err (fault_at (Line 4) F11)
unfolding reads reads_lines parts_of clear_check opening_check later_check array_check private_items item_in_front subr_entry glyph_entry line_item whole_check tail_of
far_lead_read = refl

pub no_lead_read : reads (joined (take 9 space_lines ++ codes "/lenIV % 4" ∷ drop 9 space_lines)) ≡ Err (fault_at (Line 10) F11)
unfolding reads reads_lines parts_of clear_check opening_check later_check array_check private_items item_in_front subr_entry glyph_entry line_item whole_check tail_of
no_lead_read = refl

-- a comment in a body, a tail with zeros, and a count that is too low
pub comment_read : reads (joined (take 3 space_lines ++ codes "/CharStrings 0 dict" ∷ codes "/space { 0 250 % {" ∷ codes "hsbw endchar}  ND % x" ∷ drop 9 space_lines ++ codes " 000 " ∷ codes "0 cleartomark" ∷ []))
    ≡ Ok (record {
      clear = space_form.clear;
      items =
          Section (codes "/CharStrings ") 1 (codes " dict")
          ∷ Glyph (codes "space") (codes "0" ∷ codes "250" ∷ codes "hsbw" ∷ codes "endchar" ∷ []) (codes "ND % x")
          ∷ Plain (codes "mark currentfile closefile")
          ∷ [];
      tail = codes "0 cleartomark" ∷ [];
    })
unfolding reads reads_lines parts_of clear_check opening_check later_check array_check private_items item_in_front subr_entry glyph_entry line_item whole_check tail_of
comment_read = refl
