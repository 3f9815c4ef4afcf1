use Rattle.std.proofs.Common.{◌≡◌, false, ◌<◌, List, ℕ, Result, drop, length, sym, ap, ◌∙◌, subst, rules}
use Rattle.t1_disassemble.specs.declared.fault.FontFault.{FontFault}
use Rattle.t1_disassemble.specs.Decipher.{decrypted_private}
use Rattle.t1_disassemble.specs.Digits.{is_hexadecimal}
use Rattle.t1_disassemble.specs.Front.{past_spaces}
use Rattle.t1_disassemble.specs.Outcome.{GivesFont}
use Rattle.t1_disassemble.specs.SourceOnto.{segmented_source}
use Rattle.t1_disassemble.proofs.BinaryLaws.{packed_segments}
use Rattle.t1_disassemble.proofs.packing.packed_behind.Goals as goal

pub returns : goal.returns
returns c =
    let bytes = c.args.bytes.now in
    let parts = c.args.parts.now in
    let coded = past_spaces bytes in
    let back : c.split_at_mut.result.1.now ≡ drop c.space_len-place.result bytes = search rules in
    let spaces : drop c.space_len-place.result bytes ≡ coded = ap (λ n. drop n bytes) c.space_len-place.ensures.value in
    let binary : is_hexadecimal c.past_spaces-coded.result.now ≡ false = search rules in
    let off : is_hexadecimal coded ≡ false = ap is_hexadecimal (sym c.past_spaces-coded.ensures) ∙ binary in
    let some : 0 < length parts.coded.now = search rules in
    let same = packed_segments parts.clear.now parts.coded.now parts.tail.now coded off some in
    subst (λ (g : Result (List ℕ) FontFault). GivesFont (λ text. text) c.packed_binary.result g) (ap (λ (l : List ℕ). segmented_source parts.tail.now (decrypted_private l)) (back ∙ spaces) ∙ sym same) c.packed_binary.ensures
