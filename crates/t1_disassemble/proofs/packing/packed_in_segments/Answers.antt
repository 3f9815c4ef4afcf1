use Rattle.std.proofs.Common.{◌≡◌, false, ◌<◌, List, ℕ, Result, drop, length, sym, ap, ◌∙◌, subst, rules}
use Rattle.t1_disassemble.specs.declared.fault.FontFault.{FontFault}
use Rattle.t1_disassemble.specs.Decipher.{decrypted_private}
use Rattle.t1_disassemble.specs.Digits.{is_hexadecimal}
use Rattle.t1_disassemble.specs.Front.{past_spaces}
use Rattle.t1_disassemble.specs.Outcome.{GivesFont}
use Rattle.t1_disassemble.specs.SourceOnto.{segmented_source}
use Rattle.t1_disassemble.proofs.BinaryLaws.{packed_segments}
use Rattle.t1_disassemble.proofs.packing.packed_in_segments.Goals as goal

pub returns : goal.returns
returns c =
    let coded = c.args.coded.now in
    let tail = c.args.tail.now in
    let back : c.split_at_mut.result.1.now ≡ drop c.space_len-place.result coded = search rules in
    let spaces : drop c.space_len-place.result coded ≡ past_spaces coded = ap (λ n. drop n coded) c.space_len-place.ensures.value in
    let binary : is_hexadecimal c.past-front.result.now ≡ false = search rules in
    let off : is_hexadecimal (past_spaces coded) ≡ false = ap is_hexadecimal (sym (c.past-front.ensures ∙ spaces)) ∙ binary in
    let some : 0 < length coded = search rules in
    let same = packed_segments c.args.clear.now coded tail (past_spaces coded) off some in
    subst (λ (g : Result (List ℕ) FontFault). GivesFont (λ text. text) c.packed_binary.result g) (ap (λ (l : List ℕ). segmented_source tail (decrypted_private l)) (back ∙ spaces) ∙ sym same) c.packed_binary.ensures
