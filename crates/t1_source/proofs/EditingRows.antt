-- Edits of small sources and their pairs.
use Rattle.std.specs.Prelude.{◌≡◌, ℕ, pos, negsuc, List, [], ◌∷◌, ◌++◌, Ok, Err, codes, refl}
use Rattle.std.specs.Fmt.{digits}
use Rattle.t1_parts.specs.declared.item.Item.{Item}
use Rattle.t1_parts.specs.declared.item.Item.TheVariants.{Plain, Section, Subr, Glyph}
use Rattle.t1_source.specs.declared.edit.Edit.TheVariants.{ReplaceGlyph, AddGlyph, RemoveGlyph, ReplaceSubr, AddSubr, RemoveSubr, Encode, Unencode, LenIv, Kern, Unkern}
use Rattle.t1_source.specs.declared.edit.Rule.TheVariants.{E1, E2, E3, E4, E5, E6, E9, E10}
use Rattle.t1_parts.specs.SourceParts.{SourceParts}
use Rattle.t1_source.specs.Editing.{edited, replaced_glyph, added_glyph, removed_glyph, replaced_subr, added_subr, removed_subr, encoded, unencoded, kerned, unkerned, array_parts, through_last, among_subrs_items, among_glyphs_items, is_slot, is_slot_of, lead_edited}
use Rattle.t1_source.specs.Leads.{items_with_lead, line_with_lead}
use Rattle.t1_parts.proofs.ReadingRows.{space_form}
use Rattle.t1_pairs.proofs.KernRows.{kern_av}
use Rattle.t1_source.proofs.PrintingRows.{array_form}

abbrev pub space_glyph : Item
space_glyph = Glyph (codes "space") (codes "0" ∷ codes "250" ∷ codes "hsbw" ∷ codes "endchar" ∷ []) (codes "ND")

abbrev pub other_glyph : Item
other_glyph = Glyph (codes "A") (codes "0" ∷ codes "500" ∷ codes "hsbw" ∷ codes "endchar" ∷ []) (codes "ND")

abbrev pub ending : List Item
ending = Plain (codes "end") ∷ Plain (codes "mark currentfile closefile") ∷ []

-- the small font with a second glyph
abbrev pub grown_form : SourceParts
grown_form = record space_form { items = Section (codes "/CharStrings ") 2 (codes " dict dup begin") ∷ space_glyph ∷ other_glyph ∷ ending }

-- the small font with a Subrs section
abbrev pub subrs_form_of : ℕ → List Item → SourceParts
subrs_form_of n subrs = record space_form {
  items = Section (codes "/Subrs ") n (codes " array") ∷ (subrs ++ Plain (codes "ND") ∷ Section (codes "/CharStrings ") 1 (codes " dict dup begin") ∷ space_glyph ∷ ending);
}

abbrev pub subrs_form : List Item → SourceParts
subrs_form subrs = subrs_form_of 0 subrs

-- a glyph added raises the count
pub glyph_added : edited space_form [] (AddGlyph (codes "A") (codes "0 500 % {" ++ 10 ∷ codes " hsbw endchar")) ≡ Ok (grown_form, [])
unfolding digits edited replaced_glyph added_glyph removed_glyph replaced_subr added_subr removed_subr encoded unencoded kerned unkerned array_parts through_last among_subrs_items among_glyphs_items is_slot is_slot_of
glyph_added = refl

-- and a glyph removed keeps it
pub glyph_removed : edited grown_form [] (RemoveGlyph (codes "A")) ≡ Ok (record space_form { items = Section (codes "/CharStrings ") 2 (codes " dict dup begin") ∷ space_glyph ∷ ending }, [])
unfolding digits edited replaced_glyph added_glyph removed_glyph replaced_subr added_subr removed_subr encoded unencoded kerned unkerned array_parts through_last among_subrs_items among_glyphs_items is_slot is_slot_of
glyph_removed = refl

-- a glyph replaced keeps its place and its closing text
pub glyph_replaced : edited grown_form [] (ReplaceGlyph (codes "space") (codes "0 251 hsbw endchar"))
    ≡ Ok (record space_form { items = Section (codes "/CharStrings ") 2 (codes " dict dup begin") ∷ Glyph (codes "space") (codes "0" ∷ codes "251" ∷ codes "hsbw" ∷ codes "endchar" ∷ []) (codes "ND") ∷ other_glyph ∷ ending }, [])
unfolding digits edited replaced_glyph added_glyph removed_glyph replaced_subr added_subr removed_subr encoded unencoded kerned unkerned array_parts through_last among_subrs_items among_glyphs_items is_slot is_slot_of
glyph_replaced = refl

-- the first Subr of a section, and one between the others and the next line
pub subr_added : edited (subrs_form []) [] (AddSubr (pos 3) (codes "return")) ≡ Ok (subrs_form_of 4 (Subr 3 (codes "return" ∷ []) (codes "noaccess put") ∷ []), [])
unfolding digits edited replaced_glyph added_glyph removed_glyph replaced_subr added_subr removed_subr encoded unencoded kerned unkerned array_parts through_last among_subrs_items among_glyphs_items is_slot is_slot_of
subr_added = refl

pub subr_added_last : edited (subrs_form_of 5 (Subr 4 [] (codes "NP") ∷ [])) [] (AddSubr (pos 0) (codes "return"))
    ≡ Ok (subrs_form_of 5 (Subr 4 [] (codes "NP") ∷ Subr 0 (codes "return" ∷ []) (codes "NP") ∷ []), [])
unfolding digits edited replaced_glyph added_glyph removed_glyph replaced_subr added_subr removed_subr encoded unencoded kerned unkerned array_parts through_last among_subrs_items among_glyphs_items is_slot is_slot_of
subr_added_last = refl

pub subr_removed : edited (subrs_form_of 5 (Subr 4 [] (codes "NP") ∷ [])) [] (RemoveSubr (pos 4)) ≡ Ok (subrs_form_of 5 [], [])
unfolding digits edited replaced_glyph added_glyph removed_glyph replaced_subr added_subr removed_subr encoded unencoded kerned unkerned array_parts through_last among_subrs_items among_glyphs_items is_slot is_slot_of
subr_removed = refl

-- a Subr replaced keeps its place and its closing text
pub subr_replaced : edited (subrs_form_of 5 (Subr 4 [] (codes "NP") ∷ Subr 3 (codes "return" ∷ []) (codes "ND") ∷ [])) [] (ReplaceSubr (pos 4) (codes "5 return"))
    ≡ Ok (subrs_form_of 5 (Subr 4 (codes "5" ∷ codes "return" ∷ []) (codes "NP") ∷ Subr 3 (codes "return" ∷ []) (codes "ND") ∷ []), [])
unfolding digits edited replaced_glyph added_glyph removed_glyph replaced_subr added_subr removed_subr encoded unencoded kerned unkerned array_parts through_last among_subrs_items among_glyphs_items is_slot is_slot_of
subr_replaced = refl

-- each rule once
pub replaced_missing : edited space_form [] (ReplaceGlyph (codes "A") (codes "endchar")) ≡ Err E1
unfolding digits edited replaced_glyph added_glyph removed_glyph replaced_subr added_subr removed_subr encoded unencoded kerned unkerned array_parts through_last among_subrs_items among_glyphs_items is_slot is_slot_of
replaced_missing = refl

pub added_again : edited grown_form [] (AddGlyph (codes "A") (codes "endchar")) ≡ Err E2
unfolding digits edited replaced_glyph added_glyph removed_glyph replaced_subr added_subr removed_subr encoded unencoded kerned unkerned array_parts through_last among_subrs_items among_glyphs_items is_slot is_slot_of
added_again = refl

pub bad_name : edited space_form [] (AddGlyph (codes "A;") (codes "}")) ≡ Err E3
unfolding digits edited replaced_glyph added_glyph removed_glyph replaced_subr added_subr removed_subr encoded unencoded kerned unkerned array_parts through_last among_subrs_items among_glyphs_items is_slot is_slot_of
bad_name = refl

pub past_encoded : edited space_form [] (Encode (pos 256) (codes "A")) ≡ Err E4
unfolding digits edited replaced_glyph added_glyph removed_glyph replaced_subr added_subr removed_subr encoded unencoded kerned unkerned array_parts through_last among_subrs_items among_glyphs_items is_slot is_slot_of
past_encoded = refl

pub below_kerned : edited space_form [] (Kern (codes "A") (codes "V") (negsuc 32000)) ≡ Err E4
unfolding digits edited replaced_glyph added_glyph removed_glyph replaced_subr added_subr removed_subr encoded unencoded kerned unkerned array_parts through_last among_subrs_items among_glyphs_items is_slot is_slot_of
below_kerned = refl

pub standard_encoded : edited space_form [] (Encode (pos 65) (codes "A")) ≡ Err E5
unfolding digits edited replaced_glyph added_glyph removed_glyph replaced_subr added_subr removed_subr encoded unencoded kerned unkerned array_parts through_last among_subrs_items among_glyphs_items is_slot is_slot_of
standard_encoded = refl

pub braced_body : edited space_form [] (ReplaceGlyph (codes "A") (codes "0 250 hsbw } endchar")) ≡ Err E6
unfolding digits edited replaced_glyph added_glyph removed_glyph replaced_subr added_subr removed_subr encoded unencoded kerned unkerned array_parts through_last among_subrs_items among_glyphs_items is_slot is_slot_of
braced_body = refl

pub no_section : edited space_form [] (RemoveSubr (pos 0)) ≡ Err E9
unfolding digits edited replaced_glyph added_glyph removed_glyph replaced_subr added_subr removed_subr encoded unencoded kerned unkerned array_parts through_last among_subrs_items among_glyphs_items is_slot is_slot_of
no_section = refl

pub unkern_missing : edited space_form [] (Unkern (codes "A") (codes "V")) ≡ Err E10
unfolding digits edited replaced_glyph added_glyph removed_glyph replaced_subr added_subr removed_subr encoded unencoded kerned unkerned array_parts through_last among_subrs_items among_glyphs_items is_slot is_slot_of
unkern_missing = refl

pub unencode_missing : edited (array_form (codes "dup 8#101/space put" ∷ [])) [] (Unencode (pos 66)) ≡ Err E10
unfolding digits edited replaced_glyph added_glyph removed_glyph replaced_subr added_subr removed_subr encoded unencoded kerned unkerned array_parts through_last among_subrs_items among_glyphs_items is_slot is_slot_of
unencode_missing = refl

-- the first broken rule is answered: a name before a number, the right name before the value, a number before a body,
-- a body before a section, and a standard encoding before a missing slot
pub kern_named : edited space_form [] (Kern (codes "(") (codes "V") (pos 99999)) ≡ Err E3
unfolding digits edited replaced_glyph added_glyph removed_glyph replaced_subr added_subr removed_subr encoded unencoded kerned unkerned array_parts through_last among_subrs_items among_glyphs_items is_slot is_slot_of
kern_named = refl

pub kern_right_named : edited space_form [] (Kern (codes "A") (codes "(") (pos 99999)) ≡ Err E3
unfolding digits edited replaced_glyph added_glyph removed_glyph replaced_subr added_subr removed_subr encoded unencoded kerned unkerned array_parts through_last among_subrs_items among_glyphs_items is_slot is_slot_of
kern_right_named = refl

pub subr_numbered : edited space_form [] (AddSubr (pos 32001) (codes "}")) ≡ Err E4
unfolding digits edited replaced_glyph added_glyph removed_glyph replaced_subr added_subr removed_subr encoded unencoded kerned unkerned array_parts through_last among_subrs_items among_glyphs_items is_slot is_slot_of
subr_numbered = refl

pub subr_braced : edited space_form [] (AddSubr (pos 0) (codes "}")) ≡ Err E6
unfolding digits edited replaced_glyph added_glyph removed_glyph replaced_subr added_subr removed_subr encoded unencoded kerned unkerned array_parts through_last among_subrs_items among_glyphs_items is_slot is_slot_of
subr_braced = refl

pub standard_unencoded : edited space_form [] (Unencode (pos 66)) ≡ Err E5
unfolding digits edited replaced_glyph added_glyph removed_glyph replaced_subr added_subr removed_subr encoded unencoded kerned unkerned array_parts through_last among_subrs_items among_glyphs_items is_slot is_slot_of
standard_unencoded = refl

-- a pair put in, given another value and taken out
pub kern_added : edited space_form [] (Kern (codes "A") (codes "V") (negsuc 91)) ≡ Ok (space_form, kern_av ∷ [])
unfolding digits edited replaced_glyph added_glyph removed_glyph replaced_subr added_subr removed_subr encoded unencoded kerned unkerned array_parts through_last among_subrs_items among_glyphs_items is_slot is_slot_of
kern_added = refl

pub kern_changed : edited space_form (record { left = codes "A"; right = codes "V"; value = pos 7 } ∷ []) (Kern (codes "A") (codes "V") (negsuc 91)) ≡ Ok (space_form, kern_av ∷ [])
unfolding digits edited replaced_glyph added_glyph removed_glyph replaced_subr added_subr removed_subr encoded unencoded kerned unkerned array_parts through_last among_subrs_items among_glyphs_items is_slot is_slot_of
kern_changed = refl

pub kern_removed : edited space_form (kern_av ∷ []) (Unkern (codes "A") (codes "V")) ≡ Ok (space_form, [])
unfolding digits edited replaced_glyph added_glyph removed_glyph replaced_subr added_subr removed_subr encoded unencoded kerned unkerned array_parts through_last among_subrs_items among_glyphs_items is_slot is_slot_of
kern_removed = refl

-- the last slot of a code replaced, a new slot after the last one, and the first slot of an array
pub slot_replaced : edited (array_form (codes "dup 8#101/space put" ∷ codes "dup 32 /space put" ∷ [])) [] (Encode (pos 65) (codes "A"))
    ≡ Ok (array_form (codes "dup 65 /A put" ∷ codes "dup 32 /space put" ∷ []), [])
unfolding digits edited replaced_glyph added_glyph removed_glyph replaced_subr added_subr removed_subr encoded unencoded kerned unkerned array_parts through_last among_subrs_items among_glyphs_items is_slot is_slot_of
slot_replaced = refl

pub slot_added : edited (array_form (codes "dup 8#101/space put" ∷ codes "x" ∷ [])) [] (Encode (pos 66) (codes "B"))
    ≡ Ok (array_form (codes "dup 8#101/space put" ∷ codes "dup 66 /B put" ∷ codes "x" ∷ []), [])
unfolding digits edited replaced_glyph added_glyph removed_glyph replaced_subr added_subr removed_subr encoded unencoded kerned unkerned array_parts through_last among_subrs_items among_glyphs_items is_slot is_slot_of
slot_added = refl

pub slot_first : edited (array_form []) [] (Encode (pos 7) (codes "A")) ≡ Ok (array_form (codes "dup 7 /A put" ∷ []), [])
unfolding digits edited replaced_glyph added_glyph removed_glyph replaced_subr added_subr removed_subr encoded unencoded kerned unkerned array_parts through_last among_subrs_items among_glyphs_items is_slot is_slot_of
slot_first = refl

-- all slots of a code taken out
pub slots_removed : edited (array_form (codes "dup 32 /space put" ∷ codes "dup 65 /A put" ∷ codes "dup 8#40 /x put" ∷ [])) [] (Unencode (pos 32)) ≡ Ok (array_form (codes "dup 65 /A put" ∷ []), [])
unfolding digits edited replaced_glyph added_glyph removed_glyph replaced_subr added_subr removed_subr encoded unencoded kerned unkerned array_parts through_last among_subrs_items among_glyphs_items is_slot is_slot_of
slots_removed = refl

-- the small font with this line before its section line
abbrev pub lead_form : List ℕ → SourceParts
lead_form l = record space_form { items = Plain l ∷ Section (codes "/CharStrings ") 1 (codes " dict dup begin") ∷ space_glyph ∷ ending }

-- lenIV in a new line, and in the place of another one, where all else on the line stays
pub lead_added : edited space_form [] (LenIv (pos 0)) ≡ Ok (lead_form (codes "/lenIV 0 def"), [])
unfolding digits edited lead_edited items_with_lead
lead_added = refl

pub lead_changed : edited (lead_form (codes "/lenIV 004/x /lenIV 9")) [] (LenIv (pos 64)) ≡ Ok (lead_form (codes "/lenIV 64/x /lenIV 9"), [])
unfolding digits edited lead_edited items_with_lead line_with_lead
lead_changed = refl

pub lead_past : edited space_form [] (LenIv (pos 65)) ≡ Err E4
unfolding digits edited lead_edited items_with_lead line_with_lead
lead_past = refl
