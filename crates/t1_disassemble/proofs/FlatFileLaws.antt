-- The file of a source without segments, read back.
use Rattle.std.proofs.Common.{◌≡◌, ℕ, false, ◌+◌, ◌-◌, ◌<◌, List, [], ◌∷◌, ◌++◌, length, map, drop, Result, Ok, refl, sym, ap, ◌∙◌, subst, append-nil, append_assoc, length-append, arith}
use Rattle.std.proofs.lemmas.List.{drop_at}
use Rattle.std.specs.List.{flat_map}
use Rattle.t1_frac.specs.Outcome.{◌>>=◌}
use Rattle.t1_text.specs.Lines.{begins_with, lines, joined}
use Rattle.t1_text.proofs.TextLaws.{lines_joined}
use Rattle.t1_code.specs.Cipher.{cipher, key_after, eexec}
use Rattle.t1_code.proofs.Encrypting.{length-eexec}
use Rattle.t1_parts.specs.declared.item.Item.{Item}
use Rattle.t1_parts.specs.Parts.{tail_of}
use Rattle.t1_parts.specs.declared.item.Item.TheVariants.{Plain}
use Rattle.t1_parts.specs.Printing.{item_lines, text}
use Rattle.t1_disassemble.specs.declared.fault.FontFault.{FontFault}
use Rattle.t1_disassemble.specs.Decipher.{deciphered, decrypted_private}
use Rattle.t1_disassemble.specs.Digits.{is_hexadecimal}
use Rattle.t1_disassemble.specs.Disassembly.{coded_bytes, after_coded, tail_after, source_of, disassembled}
use Rattle.t1_disassemble.specs.FilePlaces.{in_file}
use Rattle.t1_disassemble.specs.Front.{after_eexec, past_spaces}
use Rattle.t1_disassemble.specs.Laws.{plain_item, items_text, source_lines, raw_file, IsReadBack}
use Rattle.t1_disassemble.specs.PiecesOnto.{private_onto}
use Rattle.t1_disassemble.specs.SegmentsRead.{FontParts, font_parts}
use Rattle.t1_disassemble.specs.SourceOnto.{plain_onto, source_onto}
use Rattle.t1_disassemble.specs.Settings.{reading_operator, leading_bytes}
use Rattle.t1_disassemble.proofs.Deciphering.{deciphered_cipher, deciphered-append}
use Rattle.t1_disassemble.proofs.ItemLaws.{private_again}
use Rattle.t1_disassemble.proofs.PlainWords.{joined-append}
use Rattle.t1_disassemble.specs.Standing.{stands}
use Rattle.t1_disassemble.proofs.JudgedItems.{stands_again}
use Rattle.t1_disassemble.proofs.WholeLaws.{eexec_coded, items_say, clear_again, before_again, private_of, plain_again, kind_again, single_after, spaces_none, binary, unchanged}

-- what stands after the encrypted bytes decrypts to more bytes after the private text
pub deciphered_more : (private junk : List ℕ) → decrypted_private (eexec private ++ junk) ≡ private ++ deciphered (key_after 55665 (eexec private)) junk
unfolding eexec
deciphered_more private junk =
    let zeros = 0 ∷ 0 ∷ 0 ∷ 0 ∷ private in
    ap (drop 4) (deciphered-append 55665 (cipher 55665 zeros) junk ∙ ap (λ l. l ++ deciphered (key_after 55665 (cipher 55665 zeros)) junk) (deciphered_cipher 55665 zeros))

unmarked : (front rest : List ℕ) → 0 < length front → begins_with 128 front ≡ false → begins_with 128 (front ++ rest) ≡ false
unmarked [] rest some h = absurd (omega (arith, some))
unmarked (c ∷ front) rest some h = h

some_joined : (before : List (List ℕ)) (e : List ℕ) → 0 < length (joined (before ++ e ∷ []))
some_joined [] e = omega (arith, length-append e (10 ∷ []), length-append (e ++ 10 ∷ []) [])
some_joined (l ∷ before) e = omega (arith, length-append l (10 ∷ []), length-append (l ++ 10 ∷ []) (joined (before ++ e ∷ [])))

flat_parts : (file : List ℕ) → begins_with 128 file ≡ false → font_parts file ≡ Ok (record { clear = file; coded = []; tail = [] })
unfolding font_parts
flat_parts file h = rw h refl

-- the clear text, and bytes that decrypt to the private text and more, behind which the trailer stands
pub flat_again : (clear : List (List ℕ)) (operator : List ℕ) (lead : ℕ) (items : List Item) (last bytes trailer coded more : List ℕ) → IsReadBack clear operator lead items last → items_text lead operator items ≡ Ok bytes
    → begins_with 128 (joined clear) ≡ false → past_spaces coded ≡ coded → decrypted_private (coded_bytes coded) ≡ private_of bytes last ++ more → after_coded coded (length (eexec (private_of bytes last))) ≡ trailer
    → disassembled (joined clear ++ coded) ≡ Ok ((joined clear ++ joined (flat_map item_lines (map plain_item items) ++ last ∷ [])) ++ joined (tail_of (lines trailer)))
unfolding disassembled
flat_again clear operator lead items last bytes trailer coded more is made no_mark spaces plain behind =
    let private = private_of bytes last in
    let file = joined clear ++ coded in
    let parts : FontParts = record { clear = file; coded = []; tail = [] } in
    let some : 0 < length (joined clear) = subst (λ (ls : List (List ℕ)). 0 < length (joined ls)) (sym is.front.whole) (some_joined is.front.before is.front.eexec) in
    let here : past_spaces (coded ++ []) ≡ coded = ap past_spaces (append-nil coded) ∙ spaces in
    let text : joined (lines (joined clear)) ≡ joined clear = ap joined (lines_joined clear is.front.lines) in
    let grouped : private ++ more ≡ bytes ++ ((last ++ 10 ∷ []) ++ more) = append_assoc bytes (last ++ 10 ∷ []) more in
    let ended : private ++ more ≡ bytes ++ (last ++ 10 ∷ more) = grouped ∙ ap (λ l. bytes ++ l) (append_assoc last (10 ∷ []) more) in
    let says = items_say operator lead items bytes is.each made is.said.section ((last ++ 10 ∷ []) ++ more) in
    let all = joined clear ++ joined (flat_map item_lines (map plain_item items) ++ last ∷ []) in
    let count = 4 + (length (private ++ more) - length more) in
    let size : count ≡ length (eexec private) = omega (arith, length-append private more, length-eexec private) in
    let tail : tail_after parts coded count ≡ trailer = ap (after_coded coded) size ∙ behind in
    ap (λ (r : Result FontParts FontFault). r >>= λ p. in_file file (source_of p (after_eexec p.clear))) (flat_parts file (unmarked (joined clear) coded some no_mark))
    ∙ ap (in_file file) (ap (source_of parts) (clear_again clear coded is.front)
    ∙ kind_again parts coded (joined clear) (before_again (joined clear) coded) is.kind
    ∙ ap (λ t. source_onto t parts (past_spaces (coded ++ []))) text
    ∙ ap (source_onto (joined clear) parts) here
    ∙ ap (plain_onto (joined clear) parts coded) plain
    ∙ plain_again (joined clear) parts coded (private ++ more) operator all more lead (ap (λ l. leading_bytes (lines l)) grouped ∙ says.1 ∙ is.said.leads) (ap (λ l. reading_operator (lines l)) grouped ∙ says.0 ∙ is.said.reads)
    (ap (private_onto operator lead (joined clear) false) ended ∙ private_again operator lead items bytes (joined clear) last more is.said.name is.said.small is.each made is.end.line is.end.none is.end.closes is.end.fit is.end.uncut) (single_after (joined clear) (joined (source_lines items last)) is.single)
    (ap (stands operator lead) ended ∙ stands_again operator lead items bytes last more is.said.name is.said.small is.each made is.end.line is.end.none is.end.closes is.end.fit is.end.uncut is.kept)
    ∙ ap (λ t. Ok (all ++ joined (tail_of (lines t)))) tail)

-- ---- the encrypted part in binary

dropped : (coded : List ℕ) (count : ℕ) → is_hexadecimal coded ≡ false → after_coded coded count ≡ drop count coded
dropped coded count off = rw off refl

pub raw_again : (clear : List (List ℕ)) (operator : List ℕ) (lead : ℕ) (items : List Item) (last bytes trailer : List ℕ) → IsReadBack clear operator lead items last → items_text lead operator items ≡ Ok bytes
    → begins_with 128 (joined clear) ≡ false
    → disassembled (raw_file (joined clear) (bytes ++ (last ++ 10 ∷ [])) trailer)
    ≡ Ok ((joined clear ++ joined (flat_map item_lines (map plain_item items) ++ last ∷ [])) ++ joined (tail_of (lines trailer)))
raw_again clear operator lead items last bytes trailer is made no_mark =
    let private = private_of bytes last in
    let coded = eexec private ++ trailer in
    let c = eexec_coded private in
    let front : coded ≡ 217 ∷ 214 ∷ 111 ∷ 99 ∷ (c.more ++ trailer) = ap (λ l. l ++ trailer) c.is in
    let off : is_hexadecimal coded ≡ false = ap is_hexadecimal front ∙ binary (c.more ++ trailer) in
    let spaces : past_spaces coded ≡ coded = ap past_spaces front ∙ spaces_none (c.more ++ trailer) ∙ sym front in
    let more = deciphered (key_after 55665 (eexec private)) trailer in
    let plain : decrypted_private (coded_bytes coded) ≡ private ++ more = ap decrypted_private (unchanged coded off) ∙ deciphered_more private trailer in
    let tail : after_coded coded (length (eexec private)) ≡ trailer = dropped coded (length (eexec private)) off ∙ drop_at (eexec private) trailer (length (eexec private)) refl in
    flat_again clear operator lead items last bytes trailer coded more is made no_mark spaces plain tail

-- ---- the source's text

flat-append : {X : Type 0} (f : X → List (List ℕ)) (xs ys : List X) → flat_map f (xs ++ ys) ≡ flat_map f xs ++ flat_map f ys
flat-append f [] ys = refl
flat-append f (x ∷ xs) ys = ap (λ l. f x ++ l) (flat-append f xs ys) ∙ sym (append_assoc (f x) (flat_map f xs) (flat_map f ys))

pub text_again : (clear : List (List ℕ)) (items : List Item) (last : List ℕ) (tail : List (List ℕ))
    → (joined clear ++ joined (flat_map item_lines items ++ last ∷ [])) ++ joined tail ≡ text (record { clear = clear; items = items ++ Plain last ∷ []; tail = tail })
text_again clear items last tail =
    ap (λ l. (joined clear ++ joined l) ++ joined tail) (sym (flat-append item_lines items (Plain last ∷ [])))
    ∙ ap (λ l. l ++ joined tail) (sym (joined-append clear (flat_map item_lines (items ++ Plain last ∷ []))))
    ∙ sym (joined-append (clear ++ flat_map item_lines (items ++ Plain last ∷ [])) tail)
