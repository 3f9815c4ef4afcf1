-- A font with Subrs and a composite, and what sources say of lenIV and the reading operator.
use Rattle.std.specs.Prelude.{◌≡◌, ℕ, true, List, [], ◌∷◌, take, Ok, codes, refl}
use Rattle.t1_parts.specs.declared.item.Item.{Item}
use Rattle.t1_parts.specs.declared.item.Item.TheVariants.{Plain, Section, Subr, Glyph}
use Rattle.t1_parts.specs.SourceParts.{SourceParts}
use Rattle.t1_text.specs.Lines.{joined}
use Rattle.t1_parts.specs.Encoding.{clear_check, opening_check, later_check, array_check}
use Rattle.t1_parts.specs.Entries.{subr_entry, glyph_entry}
use Rattle.t1_parts.specs.Private.{item_in_front, line_item, private_items}
use Rattle.t1_parts.specs.Parts.{parts_of, tail_of}
use Rattle.t1_parts.specs.Reading.{reads, reads_lines, whole_check, standard}
use Rattle.t1_parts.specs.LenIV.{lead, lead_among}
use Rattle.t1_parts.specs.Operator.{operator, operator_among}

abbrev pub demo_lines : List (List ℕ)
demo_lines =
    codes "%!PS-AdobeFont-1.0: Demo 001.000" ∷
    codes "/FontInfo 5 dict dup begin" ∷
    codes "/version (001.000) readonly def" ∷
    codes "/FullName (Demo Roman) readonly def" ∷
    codes "/Weight (Medium) readonly def" ∷
    codes "/ItalicAngle 0 def" ∷
    codes "/isFixedPitch false def" ∷
    codes "end readonly def" ∷
    codes "/FontName /Demo def" ∷
    codes "/Encoding StandardEncoding def" ∷
    codes "/FontBBox{0 0 0 0}readonly def" ∷
    codes "currentfile eexec" ∷
    codes "dup /Private 8 dict dup begin" ∷
    codes "/RD {string currentfile exch readstring pop} executeonly def" ∷
    codes "/Subrs 5 array" ∷
    codes "dup 0 {" ∷
    (9 ∷ codes "3 0 callothersubr") ∷
    (9 ∷ codes "pop") ∷
    (9 ∷ codes "pop") ∷
    (9 ∷ codes "setcurrentpoint") ∷
    (9 ∷ codes "return") ∷
    (9 ∷ codes "} NP") ∷
    codes "dup 1 {" ∷
    (9 ∷ codes "0 1 callothersubr") ∷
    (9 ∷ codes "return") ∷
    (9 ∷ codes "} NP") ∷
    codes "dup 2 {" ∷
    (9 ∷ codes "0 2 callothersubr") ∷
    (9 ∷ codes "return") ∷
    (9 ∷ codes "} NP") ∷
    codes "dup 3 {" ∷
    (9 ∷ codes "return") ∷
    (9 ∷ codes "} NP") ∷
    codes "dup 4 {" ∷
    (9 ∷ codes "100 178 rlineto") ∷
    (9 ∷ codes "return") ∷
    (9 ∷ codes "} NP") ∷
    codes "ND" ∷
    codes "2 index /CharStrings 6 dict dup begin" ∷
    codes "/.notdef {" ∷
    (9 ∷ codes "0 250 hsbw") ∷
    (9 ∷ codes "endchar") ∷
    (9 ∷ codes "} ND") ∷
    codes "/Aacute {" ∷
    (9 ∷ codes "10 600 hsbw") ∷
    (9 ∷ codes "93 170 214 65 194 seac") ∷
    (9 ∷ codes "} ND") ∷
    codes "/A {" ∷
    (9 ∷ codes "10 600 hsbw") ∷
    (9 ∷ codes "300 hlineto") ∷
    (9 ∷ codes "700 vlineto") ∷
    (9 ∷ codes "closepath") ∷
    (9 ∷ codes "endchar") ∷
    (9 ∷ codes "} ND") ∷
    codes "/acute {" ∷
    (9 ∷ codes "93 333 hsbw") ∷
    (9 ∷ codes "500 vmoveto") ∷
    (9 ∷ codes "4 callsubr") ∷
    (9 ∷ codes "closepath") ∷
    (9 ∷ codes "endchar") ∷
    (9 ∷ codes "} ND") ∷
    codes "/V {" ∷
    (9 ∷ codes "15 722 hsbw") ∷
    (9 ∷ codes "0 700 rmoveto") ∷
    (9 ∷ codes "100 -700 rlineto") ∷
    (9 ∷ codes "closepath") ∷
    (9 ∷ codes "endchar") ∷
    (9 ∷ codes "} ND") ∷
    codes "/space {" ∷
    (9 ∷ codes "0 250 hsbw") ∷
    (9 ∷ codes "endchar") ∷
    (9 ∷ codes "} ND") ∷
    codes "end" ∷
    codes "end" ∷
    codes "mark currentfile closefile" ∷
    codes "cleartomark" ∷ []

-- the demo font's private part
abbrev pub demo_items : List Item
demo_items =
    Plain (codes "dup /Private 8 dict dup begin") ∷
    Plain (codes "/RD {string currentfile exch readstring pop} executeonly def") ∷
    Section (codes "/Subrs ") 5 (codes " array") ∷
    Subr 0 (codes "3" ∷ codes "0" ∷ codes "callothersubr" ∷ codes "pop" ∷ codes "pop" ∷ codes "setcurrentpoint" ∷ codes "return" ∷ []) (codes "NP") ∷
    Subr 1 (codes "0" ∷ codes "1" ∷ codes "callothersubr" ∷ codes "return" ∷ []) (codes "NP") ∷
    Subr 2 (codes "0" ∷ codes "2" ∷ codes "callothersubr" ∷ codes "return" ∷ []) (codes "NP") ∷
    Subr 3 (codes "return" ∷ []) (codes "NP") ∷
    Subr 4 (codes "100" ∷ codes "178" ∷ codes "rlineto" ∷ codes "return" ∷ []) (codes "NP") ∷
    Plain (codes "ND") ∷
    Section (codes "2 index /CharStrings ") 6 (codes " dict dup begin") ∷
    Glyph (codes ".notdef") (codes "0" ∷ codes "250" ∷ codes "hsbw" ∷ codes "endchar" ∷ []) (codes "ND") ∷
    Glyph (codes "Aacute") (codes "10" ∷ codes "600" ∷ codes "hsbw" ∷ codes "93" ∷ codes "170" ∷ codes "214" ∷ codes "65" ∷ codes "194" ∷ codes "seac" ∷ []) (codes "ND") ∷
    Glyph (codes "A") (codes "10" ∷ codes "600" ∷ codes "hsbw" ∷ codes "300" ∷ codes "hlineto" ∷ codes "700" ∷ codes "vlineto" ∷ codes "closepath" ∷ codes "endchar" ∷ []) (codes "ND") ∷
    Glyph (codes "acute") (codes "93" ∷ codes "333" ∷ codes "hsbw" ∷ codes "500" ∷ codes "vmoveto" ∷ codes "4" ∷ codes "callsubr" ∷ codes "closepath" ∷ codes "endchar" ∷ []) (codes "ND") ∷
    Glyph (codes "V") (codes "15" ∷ codes "722" ∷ codes "hsbw" ∷ codes "0" ∷ codes "700" ∷ codes "rmoveto" ∷ codes "100" ∷ codes "-700" ∷ codes "rlineto" ∷ codes "closepath" ∷ codes "endchar" ∷ []) (codes "ND") ∷
    Glyph (codes "space") (codes "0" ∷ codes "250" ∷ codes "hsbw" ∷ codes "endchar" ∷ []) (codes "ND") ∷
    Plain (codes "end") ∷
    Plain (codes "end") ∷
    Plain (codes "mark currentfile closefile") ∷ []

abbrev pub demo_form : SourceParts
demo_form = record { clear = take 12 demo_lines; items = demo_items; tail = codes "cleartomark" ∷ [] }

pub demo_read : reads (joined demo_lines) ≡ Ok demo_form
unfolding reads reads_lines parts_of clear_check opening_check later_check array_check private_items item_in_front subr_entry glyph_entry line_item whole_check tail_of
demo_read = refl

pub demo_standard : standard demo_form ≡ true
demo_standard = refl

pub demo_lead : lead demo_form ≡ 4
demo_lead = refl

pub demo_operator : operator demo_form ≡ codes "RD"
demo_operator = refl

-- lenIV of some plain lines: the first decides
pub first_lead_of : lead_among (Plain (codes "x /lenIV 0 def") ∷ Plain (codes "/lenIV 7 def") ∷ []) ≡ 0
first_lead_of = refl

-- the name before `string currentfile`, where an earlier line hasn't the text
pub later_operator : operator_among (Plain (codes "/ND {def}") ∷ Plain (codes "/a /-| {string currentfile} /b") ∷ []) ≡ codes "-|"
later_operator = refl

-- a token that isn't a name, and one that runs into the text, don't count
pub named_operator : operator_among (Plain (codes "/XX / {string currentfile}") ∷ []) ≡ codes "XX"
named_operator = refl

pub joined_operator : operator_among (Plain (codes "/XX /RDstring currentfile") ∷ []) ≡ codes "XX"
joined_operator = refl

-- the first line that holds the text decides, also in a comment, where no token stands
pub hidden_operator : operator_among (Plain (codes "% /X {string currentfile") ∷ Plain (codes "/Y {string currentfile") ∷ []) ≡ codes "RD"
hidden_operator = refl
