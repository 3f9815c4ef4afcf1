-- The PFA file of a source read back.
use Rattle.std.proofs.Common.{◌≡◌, ℕ, true, false, ◌*◌, ◌/◌, ◌^◌, ◌<◌, List, [], ◌∷◌, ◌++◌, length, map, Ok, sym, ap, refl, ◌∙◌, arith}
use Rattle.std.proofs.lemmas.Bool.{le-leb, and_from}
use Rattle.std.proofs.lemmas.Nat.{xor_of_8}
use Rattle.std.specs.List.{flat_map}
use Rattle.std.specs.Prelude.{bit_xor, nat_le}
use Rattle.t1_text.specs.Lines.{begins_with, lines, joined}
use Rattle.t1_code.specs.Cipher.{cipher, next_key, key_after, eexec}
use Rattle.t1_code.specs.Pfa.{hexadecimal_lines, pfa}
use Rattle.t1_code.proofs.Digits.{lines_are}
use Rattle.t1_code.proofs.Framing.{hexadecimal_parts}
use Rattle.t1_parts.specs.declared.item.Item.{Item}
use Rattle.t1_parts.specs.Parts.{tail_of}
use Rattle.t1_parts.specs.Printing.{item_lines}
use Rattle.t1_disassemble.specs.Decipher.{deciphered, decrypted_private}
use Rattle.t1_disassemble.specs.Digits.{digit_value, digit_bytes, after_digits, is_hexadecimal}
use Rattle.t1_disassemble.specs.Disassembly.{coded_bytes, after_coded, disassembled}
use Rattle.t1_disassemble.specs.Front.{past_line, past_spaces}
use Rattle.t1_disassemble.specs.Laws.{plain_item, items_text, IsReadBack, AreBytes}
use Rattle.t1_disassemble.proofs.DigitLaws.{lines_again, lines_passed}
use Rattle.t1_disassemble.proofs.FlatFileLaws.{deciphered_more, flat_again}
use Rattle.t1_disassemble.proofs.WholeLaws.{Coded, eexec_coded, private_of}

-- ---- encrypted bytes are bytes

cipher_bytes : (key : ℕ) (plain : List ℕ) → key < 65536 → AreBytes plain → AreBytes (cipher key plain)
cipher_bytes key [] small h = tt
cipher_bytes key (p ∷ ps) small h =
    let high : key / 256 < 2 ^ 8 = omega (arith, small) in
    let byte = xor_of_8 p (key / 256) h.0 high in
    (byte, cipher_bytes (next_key key (bit_xor p (key / 256))) ps (omega arith) h.1)

eexec_bytes : (private : List ℕ) → AreBytes private → AreBytes (eexec private)
unfolding eexec
eexec_bytes private h = cipher_bytes 55665 (0 ∷ 0 ∷ 0 ∷ 0 ∷ private) (omega arith) (omega arith, (omega arith, (omega arith, (omega arith, h))))

-- ---- digits begin so, as the standard wants it of the hexadecimal form

record Digits (bytes : List ℕ) : Type 0 where
  more : List ℕ
  is : bytes ≡ 100 ∷ 57 ∷ 100 ∷ 54 ∷ more

digits_front : (coded rest : List ℕ) → Coded coded → Digits (hexadecimal_lines coded ++ rest)
digits_front coded rest c = record { more = _; is = ap (λ l. l ++ rest) (ap hexadecimal_lines c.is ∙ lines_are (217 ∷ 214 ∷ 111 ∷ 99 ∷ c.more)) }

no_spaces : (more : List ℕ) → past_spaces (100 ∷ 57 ∷ 100 ∷ 54 ∷ more) ≡ 100 ∷ 57 ∷ 100 ∷ 54 ∷ more
no_spaces more = refl

hexadecimal : (more : List ℕ) → is_hexadecimal (100 ∷ 57 ∷ 100 ∷ 54 ∷ more) ≡ true
unfolding digit_value
hexadecimal more = and_from (nat_le 4 (length (100 ∷ 57 ∷ 100 ∷ 54 ∷ more))) true (le-leb 4 (length (100 ∷ 57 ∷ 100 ∷ 54 ∷ more)) (omega arith)) refl

chosen_bytes : (coded : List ℕ) → is_hexadecimal coded ≡ true → coded_bytes coded ≡ digit_bytes coded
chosen_bytes coded h = rw h refl

chosen_after : (coded : List ℕ) (count : ℕ) → is_hexadecimal coded ≡ true → after_coded coded count ≡ past_line (after_digits (2 * count) coded)
chosen_after coded count h = rw h refl

line_passed : (rest : List ℕ) → past_line (10 ∷ rest) ≡ rest
line_passed rest = refl

-- ---- the file

pub digits_again : (clear : List (List ℕ)) (operator : List ℕ) (lead : ℕ) (items : List Item) (last bytes trailer : List ℕ) → IsReadBack clear operator lead items last → items_text lead operator items ≡ Ok bytes
    → AreBytes (private_of bytes last) → begins_with 128 (joined clear) ≡ false
    → disassembled (pfa (joined clear) (bytes ++ (last ++ 10 ∷ [])) trailer)
    ≡ Ok ((joined clear ++ joined (flat_map item_lines (map plain_item items) ++ last ∷ [])) ++ joined (tail_of (lines trailer)))
digits_again clear operator lead items last bytes trailer is made all_bytes no_mark =
    let private = private_of bytes last in
    let coded = hexadecimal_lines (eexec private) ++ trailer in
    let d = digits_front (eexec private) trailer (eexec_coded private) in
    let spaces : past_spaces coded ≡ coded = ap past_spaces d.is ∙ no_spaces d.more ∙ sym d.is in
    let hex : is_hexadecimal coded ≡ true = ap is_hexadecimal d.is ∙ hexadecimal d.more in
    let are = eexec_bytes private all_bytes in
    let junk = digit_bytes trailer in
    let more = deciphered (key_after 55665 (eexec private)) junk in
    let plain : decrypted_private (coded_bytes coded) ≡ private ++ more =
    ap decrypted_private (chosen_bytes coded hex ∙ lines_again (eexec private) trailer are) ∙ deciphered_more private junk
    in
    let tail : after_coded coded (length (eexec private)) ≡ trailer =
    chosen_after coded (length (eexec private)) hex ∙ ap past_line (lines_passed (eexec private) trailer are) ∙ line_passed trailer
    in
    ap disassembled (hexadecimal_parts (joined clear) private trailer)
    ∙ flat_again clear operator lead items last bytes trailer coded more is made no_mark spaces plain tail
