-- The file of a source read back.
use Rattle.std.proofs.Common.{◌≡◌, ℕ, Bool, true, false, ◌&&◌, if◌then◌else◌, ◌+◌, ◌-◌, ◌^◌, ◌≤◌, ◌<◌, List, [], ◌∷◌, ◌++◌, length, map, drop, codes, Option, None, Some, Result, Ok, Err, refl, sym, ap, ◌∙◌, subst, append-nil, append_assoc, length-append, inl, inr, arith}
use Rattle.std.proofs.lemmas.Bool.{and_parts, or_parts, cases_Bool, ne_eqb}
use Rattle.std.proofs.lemmas.List.{take_at, drop_at}
use Rattle.std.specs.Fmt.{decimal}
use Rattle.std.specs.List.{list_all, list_any, flat_map}
use Rattle.std.specs.Prelude.{is_some, nat_le, unwrap_or}
use Rattle.t1_frac.specs.Outcome.{◌>>=◌}
use Rattle.t1_frac.specs.declared.fault.Code.{Code}
use Rattle.t1_text.specs.Lines.{is_line, lines, joined, before_rest}
use Rattle.t1_text.proofs.LineLaws.{first_line_lem}
use Rattle.t1_text.proofs.TextLaws.{lines_joined}
use Rattle.t1_code.specs.Cipher.{eexec}
use Rattle.t1_code.specs.Pfb.{pfb}
use Rattle.t1_code.proofs.Encrypting.{length-eexec}
use Rattle.t1_parts.specs.declared.item.Item.{Item}
use Rattle.t1_parts.specs.declared.item.Item.TheVariants.{Plain, Section, Subr, Glyph}
use Rattle.t1_parts.specs.Operator.{operator_on}
use Rattle.t1_parts.specs.Parts.{holds, is_eexec, tail_of}
use Rattle.t1_parts.specs.Printing.{item_lines}
use Rattle.t1_disassemble.specs.declared.fault.FontCode.{FontCode}
use Rattle.t1_disassemble.specs.declared.fault.FontFault.{FontFault}
use Rattle.t1_disassemble.specs.Decipher.{decrypted_private}
use Rattle.t1_disassemble.specs.Digits.{digit_value, is_hexadecimal}
use Rattle.t1_disassemble.specs.Disassembly.{coded_bytes, tail_after, coded_source, source_of, disassembled}
use Rattle.t1_disassemble.specs.FilePlaces.{in_file}
use Rattle.t1_disassemble.specs.Front.{past_line, after_eexec_line, after_eexec_words, first_of, after_eexec, past_spaces}
use Rattle.t1_disassemble.specs.Kinds.{plain_kind, single_sections}
use Rattle.t1_disassemble.specs.Laws.{plain_item, items_text, reads_line, reads_item, front_lines, source_lines, EndsWithEexec, IsReadBack}
use Rattle.t1_disassemble.specs.PiecesOnto.{private_onto}
use Rattle.t1_disassemble.specs.SegmentsRead.{FontParts}
use Rattle.t1_disassemble.specs.SourceOnto.{plain_onto, source_onto}
use Rattle.t1_disassemble.specs.Standing.{stands}
use Rattle.t1_disassemble.specs.Settings.{opens_section, before_section, operator_said, lead_before, said_on, lead_said, reading_operator, leading_bytes}
use Rattle.t1_disassemble.proofs.Deciphering.{private_again as deciphered_again}
use Rattle.t1_disassemble.proofs.FrontLaws.{line_front, line_past}
use Rattle.t1_disassemble.proofs.Fronts.{eexec_more}
use Rattle.t1_disassemble.proofs.ItemLaws.{reads, private_again}
use Rattle.t1_disassemble.proofs.JudgedItems.{stands_again}
use Rattle.t1_disassemble.proofs.SegmentLaws.{pfb_again}
use Rattle.t1_disassemble.proofs.Sources.{source_same}

-- ---- lines in front of other bytes

pub lines_front : (l rest : List ℕ) → is_line l ≡ true → lines (l ++ 10 ∷ rest) ≡ l ∷ lines rest
lines_front l rest h =
    let bytes = l ++ 10 ∷ rest in
    first_line_lem bytes (omega (arith, length-append l (10 ∷ rest)))
    ∙ ap (λ f. f ∷ lines (past_line bytes)) (line_front l rest h) ∙ ap (λ r. l ∷ lines r) (line_past l rest h)

-- ---- what the private text says before its first section

-- two functions of lines that stop at a section line, and go by what a line says
operator_step : (l : List ℕ) (ls ms : List (List ℕ)) → (opens_section l ≡ false → reading_operator ls ≡ reading_operator ms) → reading_operator (l ∷ ls) ≡ reading_operator (l ∷ ms)
operator_step l ls ms same = elim (cases_Bool (opens_section l)) [
  | inl t ↦ rw t refl
  | inr f ↦ ap (λ (r : List ℕ). if opens_section l then operator_said (before_section l) else (if holds (codes "string currentfile") l then unwrap_or (operator_on l) (codes "RD") else r)) (same f)
]

lead_step : (l : List ℕ) (ls ms : List (List ℕ)) → (opens_section l ≡ false → leading_bytes ls ≡ leading_bytes ms) → leading_bytes (l ∷ ls) ≡ leading_bytes (l ∷ ms)
lead_step l ls ms same = elim (cases_Bool (opens_section l)) [
  | inl t ↦ rw t refl
  | inr f ↦ ap (λ (r : Result ℕ FontCode). if opens_section l then lead_before (said_on (before_section l)) else (if is_some (said_on l) then lead_said (unwrap_or (said_on l) None) else r)) (same f)
]

later : (l : List ℕ) (fs : List (List ℕ)) → list_any opens_section (l ∷ fs) ≡ true → opens_section l ≡ false → list_any opens_section fs ≡ true
later l fs h f = rw f at h

-- what is said of some bytes, whatever stands after them, is what is said of some lines
abbrev Says : List ℕ → List (List ℕ) → Type 0
Says bytes front = (more : List ℕ) → (reading_operator (lines (bytes ++ more)) ≡ reading_operator front) × (leading_bytes (lines (bytes ++ more)) ≡ leading_bytes front)

line_says : (l rest : List ℕ) (fs : List (List ℕ)) → is_line l ≡ true → (opens_section l ≡ false → Says rest fs) → Says ((l ++ 10 ∷ []) ++ rest) (l ∷ fs)
line_says l rest fs h same more =
    let bytes = ((l ++ 10 ∷ []) ++ rest) ++ more in
    let grouped : bytes ≡ l ++ 10 ∷ (rest ++ more) = append_assoc (l ++ 10 ∷ []) rest more ∙ append_assoc l (10 ∷ []) (rest ++ more) in
    let cut : lines bytes ≡ l ∷ lines (rest ++ more) = ap lines grouped ∙ lines_front l (rest ++ more) h in (
      ap reading_operator cut ∙ operator_step l (lines (rest ++ more)) fs (λ f. (same f more).0),
      ap leading_bytes cut ∙ lead_step l (lines (rest ++ more)) fs (λ f. (same f more).1),
    )

whole_line : (operator line : List ℕ) → reads_line operator line ≡ true → is_line line ≡ true
whole_line operator line h = (reads operator line h).whole

absent : (l : List ℕ) → list_any opens_section (l ∷ []) ≡ true → opens_section l ≡ false → ⊥
absent l h f = let none : false ≡ true = rw f at h in cc

plain_says : (line : List ℕ) (fs : List (List ℕ)) (texts : Result (List ℕ) Code) (bytes : List ℕ) → is_line line ≡ true → ((b : List ℕ) → texts ≡ Ok b → opens_section line ≡ false → Says b fs)
    → (texts >>= λ t. Ok ((line ++ 10 ∷ []) ++ t)) ≡ Ok bytes → Says bytes (line ∷ fs)
plain_says line fs (Ok b) bytes h each e =
    let is : (line ++ 10 ∷ []) ++ b ≡ bytes = cc in
    subst (λ (l : List ℕ). Says l (line ∷ fs)) is (line_says line b fs h (each b refl))
plain_says line fs (Err fault) bytes h each e = absurd (cc)

pub items_say : (operator : List ℕ) (lead : ℕ) (items : List Item) (bytes : List ℕ) → list_all (reads_item operator) items ≡ true → items_text lead operator items ≡ Ok bytes → list_any opens_section (front_lines items) ≡ true → Says bytes (front_lines items)
items_say operator lead [] bytes h e some = absurd (cc)
items_say operator lead (Plain line ∷ items) bytes h e some =
    let parts = and_parts (reads_line operator line) (list_all (reads_item operator) items) h in
    plain_says line (front_lines items) (items_text lead operator items) bytes (whole_line operator line parts.0)
    (λ b is f. items_say operator lead items b parts.1 is (later line (front_lines items) some f)) e
items_say operator lead (Section before count after ∷ items) bytes h e some =
    let line = before ++ decimal count ++ after in
    let parts = and_parts (reads_line operator line) (list_all (reads_item operator) items) h in
    plain_says line [] (items_text lead operator items) bytes (whole_line operator line parts.0) (λ b is f. absurd (absent line some f)) e
items_say operator lead (Subr number words closing ∷ items) bytes h e some = absurd (cc)
items_say operator lead (Glyph name words closing ∷ items) bytes h e some = absurd (cc)

-- ---- the clear text

eexec_line : (l rest : List ℕ) → is_line l ≡ true → after_eexec_line (l ++ 10 ∷ rest) ≡ (if is_eexec l then Some rest else after_eexec_line rest)
eexec_line l rest h =
    let bytes = l ++ 10 ∷ rest in
    eexec_more bytes (omega (arith, length-append l (10 ∷ rest)))
    ∙ ap (λ f. if is_eexec f then Some (past_line bytes) else after_eexec_line (past_line bytes)) (line_front l rest h)
    ∙ ap (λ r. if is_eexec l then Some r else after_eexec_line r) (line_past l rest h)

grouped : (l more rest : List ℕ) → ((l ++ 10 ∷ []) ++ more) ++ rest ≡ l ++ 10 ∷ (more ++ rest)
grouped l more rest = append_assoc (l ++ 10 ∷ []) more rest ∙ append_assoc l (10 ∷ []) (more ++ rest)

clear_after : (before : List (List ℕ)) (e rest : List ℕ) → list_all is_line (before ++ e ∷ []) ≡ true → list_any is_eexec before ≡ false → is_eexec e ≡ true
    → after_eexec_line (joined (before ++ e ∷ []) ++ rest) ≡ Some rest
clear_after [] e rest h none ends =
    let parts = and_parts (is_line e) true h in
    ap after_eexec_line (grouped e [] rest) ∙ eexec_line e rest parts.0 ∙ rw ends refl
clear_after (l ∷ before) e rest h none ends =
    let parts = and_parts (is_line l) (list_all is_line (before ++ e ∷ [])) h in
    let off = or_parts (is_eexec l) (list_any is_eexec before) none in
    ap after_eexec_line (grouped l (joined (before ++ e ∷ [])) rest) ∙ eexec_line l (joined (before ++ e ∷ []) ++ rest) parts.0
    ∙ ap (λ t. if t then Some (joined (before ++ e ∷ []) ++ rest) else after_eexec_line (joined (before ++ e ∷ []) ++ rest)) off.0
    ∙ clear_after before e rest parts.1 off.1 ends

clear_line : (clear : List (List ℕ)) (rest : List ℕ) → EndsWithEexec clear → after_eexec_line (joined clear ++ rest) ≡ Some rest
clear_line clear rest is =
    ap (λ (ls : List (List ℕ)). after_eexec_line (joined ls ++ rest)) is.whole
    ∙ clear_after is.before is.eexec rest (ap (list_all is_line) (sym is.whole) ∙ is.lines) is.none is.ends

pub clear_again : (clear : List (List ℕ)) (rest : List ℕ) → EndsWithEexec clear → after_eexec (joined clear ++ rest) ≡ Some rest
clear_again clear rest is = ap (λ (found : Option (List ℕ)). first_of found (after_eexec_words (joined clear ++ rest))) (clear_line clear rest is)

pub before_again : (front rest : List ℕ) → before_rest (front ++ rest) rest ≡ front
before_again front rest = take_at front rest (length (front ++ rest) - length rest) (omega (arith, length-append front rest))

-- ---- the encrypted bytes

-- they begin so, as the standard wants it of the binary form
pub record Coded (bytes : List ℕ) : Type 0 where
  pub more : List ℕ
  pub is : bytes ≡ 217 ∷ 214 ∷ 111 ∷ 99 ∷ more

pub eexec_coded : (private : List ℕ) → Coded (eexec private)
unfolding eexec
eexec_coded private = record { more = _; is = refl }

pub spaces_none : (more : List ℕ) → past_spaces (217 ∷ 214 ∷ 111 ∷ 99 ∷ more) ≡ 217 ∷ 214 ∷ 111 ∷ 99 ∷ more
spaces_none more = refl

and_false : (b : Bool) → (b && false) ≡ false
and_false true = refl
and_false false = refl

pub binary : (more : List ℕ) → is_hexadecimal (217 ∷ 214 ∷ 111 ∷ 99 ∷ more) ≡ false
unfolding digit_value
binary more = and_false (nat_le 4 (length (217 ∷ 214 ∷ 111 ∷ 99 ∷ more)))

pub unchanged : (coded : List ℕ) → is_hexadecimal coded ≡ false → coded_bytes coded ≡ coded
unchanged coded off = rw off refl

pub coded_again : (private : List ℕ) → (past_spaces (eexec private) ≡ eexec private) × (decrypted_private (coded_bytes (eexec private)) ≡ private)
coded_again private =
    let c = eexec_coded private in
    let off : is_hexadecimal (eexec private) ≡ false = ap is_hexadecimal c.is ∙ binary c.more in (
      ap past_spaces c.is ∙ spaces_none c.more ∙ sym c.is,
      ap decrypted_private (unchanged (eexec private) off) ∙ deciphered_again private,
    )

-- ---- the source

abbrev pub private_of : List ℕ → List ℕ → List ℕ
private_of bytes last = bytes ++ (last ++ 10 ∷ [])

pub plain_again : (text : List ℕ) (parts : FontParts) (coded plain operator made rest : List ℕ) (lead : ℕ) → leading_bytes (lines plain) ≡ Ok lead → reading_operator (lines plain) ≡ operator
    → private_onto operator lead text false plain ≡ Ok (made, rest) → single_sections (drop (length text) made) ≡ Ok (drop (length text) made)
    → stands operator lead plain ≡ Ok tt
    → plain_onto text parts coded plain ≡ Ok (made ++ joined (tail_of (lines (tail_after parts coded (4 + (length plain - length rest))))))
plain_again text parts coded plain operator made rest lead says reads is single stands = rw (says, reads, is, single, stands) refl

pub tail_again : (clear coded tail bytes : List ℕ) (count : ℕ) → 0 < length coded → tail_after (record { clear = clear; coded = coded; tail = tail }) bytes count ≡ tail
tail_again clear coded tail bytes count some = rw (ne_eqb (length coded) 0 (omega (arith, some))) refl

-- the clear text of a font that is read, in front of what is read behind it
pub kind_again : (parts : FontParts) (after front : List ℕ) → before_rest parts.clear after ≡ front → plain_kind front ≡ Ok front
    → source_of parts (Some after) ≡ source_onto (joined (lines front)) parts (past_spaces (after ++ parts.coded))
kind_again parts after front e kind =
    let coded = past_spaces (after ++ parts.coded) in
    ap (λ (l : List ℕ). plain_kind l >>= λ c. coded_source parts coded >>= λ others. Ok (joined (lines c) ++ others)) e
    ∙ ap (λ (r : Result (List ℕ) FontFault). r >>= λ c. coded_source parts coded >>= λ others. Ok (joined (lines c) ++ others)) kind
    ∙ sym (source_same (joined (lines front)) parts coded)

-- the lines that stand after others have one section of a kind
pub single_after : (front made : List ℕ) → single_sections made ≡ Ok made → single_sections (drop (length front) (front ++ made)) ≡ Ok (drop (length front) (front ++ made))
single_after front made h = subst (λ (l : List ℕ). single_sections l ≡ Ok l) (sym (drop_at front made (length front) refl)) h

pub source_again : (clear : List (List ℕ)) (operator : List ℕ) (lead : ℕ) (items : List Item) (last bytes trailer : List ℕ) → IsReadBack clear operator lead items last → items_text lead operator items ≡ Ok bytes
    → source_of (record { clear = joined clear; coded = eexec (private_of bytes last); tail = trailer }) (Some [])
    ≡ Ok ((joined clear ++ joined (flat_map item_lines (map plain_item items) ++ last ∷ [])) ++ joined (tail_of (lines trailer)))
source_again clear operator lead items last bytes trailer is made =
    let private = private_of bytes last in
    let coded = eexec private in
    let parts : FontParts = record { clear = joined clear; coded = coded; tail = trailer } in
    let says = items_say operator lead items bytes is.each made is.said.section (last ++ 10 ∷ []) in
    let all = joined clear ++ joined (flat_map item_lines (map plain_item items) ++ last ∷ []) in
    let front : before_rest (joined clear) [] ≡ joined clear = ap (λ l. before_rest l []) (sym (append-nil (joined clear))) ∙ before_again (joined clear) [] in
    let text : joined (lines (joined clear)) ≡ joined clear = ap joined (lines_joined clear is.front.lines) in
    let some : 0 < length coded = omega (arith, length-eexec private) in
    kind_again parts [] (joined clear) front is.kind
    ∙ ap (λ t. source_onto t parts (past_spaces coded)) text
    ∙ ap (source_onto (joined clear) parts) (coded_again private).0
    ∙ ap (plain_onto (joined clear) parts coded) (coded_again private).1
    ∙ plain_again (joined clear) parts coded private operator all [] lead (says.1 ∙ is.said.leads) (says.0 ∙ is.said.reads)
    (private_again operator lead items bytes (joined clear) last [] is.said.name is.said.small is.each made is.end.line is.end.none is.end.closes is.end.fit is.end.uncut) (single_after (joined clear) (joined (source_lines items last)) is.single)
    (stands_again operator lead items bytes last [] is.said.name is.said.small is.each made is.end.line is.end.none is.end.closes is.end.fit is.end.uncut is.kept)
    ∙ ap (λ t. Ok (all ++ joined (tail_of (lines t)))) (tail_again (joined clear) coded trailer coded (4 + (length private - 0)) some)

pub file_again : (size : ℕ) (clear : List (List ℕ)) (operator : List ℕ) (lead : ℕ) (items : List Item) (last bytes trailer : List ℕ) → 1 ≤ size → size < 2 ^ 32 → IsReadBack clear operator lead items last → items_text lead operator items ≡ Ok bytes
    → disassembled (pfb size (joined clear) (bytes ++ (last ++ 10 ∷ [])) trailer)
    ≡ Ok ((joined clear ++ joined (flat_map item_lines (map plain_item items) ++ last ∷ [])) ++ joined (tail_of (lines trailer)))
unfolding disassembled
file_again size clear operator lead items last bytes trailer some short is made =
    let private = private_of bytes last in
    let parts : FontParts = record { clear = joined clear; coded = eexec private; tail = trailer } in
    let found : after_eexec (joined clear) ≡ Some [] = ap after_eexec (sym (append-nil (joined clear))) ∙ clear_again clear [] is.front in
    let file = pfb size (joined clear) private trailer in
    ap (λ (r : Result FontParts FontFault). r >>= λ p. in_file file (source_of p (after_eexec p.clear))) (pfb_again size (joined clear) private trailer some short)
    ∙ ap (in_file file) (ap (source_of parts) found ∙ source_again clear operator lead items last bytes trailer is made)
