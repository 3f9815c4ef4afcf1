use Rattle.std.proofs.Common.{◌≡◌, false, ◌+◌, List, ℕ, Result, drop, sym, ap, ◌∙◌, subst, rules}
use Rattle.std.specs.List.{prefix_len}
use Rattle.t1_disassemble.specs.declared.fault.FontFault.{FontFault}
use Rattle.t1_disassemble.specs.Digits.{is_hexadecimal}
use Rattle.t1_disassemble.specs.Front.{is_space, past_spaces}
use Rattle.t1_disassemble.specs.Outcome.{GivesFont}
use Rattle.t1_disassemble.specs.SourceOnto.{flat_source}
use Rattle.t1_disassemble.proofs.BinaryLaws.{spaces_behind, flat_same}
use Rattle.t1_disassemble.proofs.packing.packed_alone.Goals as goal

pub returns : goal.returns
returns c =
    let clear = c.args.clear.now in
    let len = c.args.len in
    let coded = past_spaces (drop len clear) in
    let back : c.split_at_mut.result.1.now ≡ drop (len + c.space_len.result) clear = search rules in
    let spaces : drop (len + c.space_len.result) clear ≡ coded =
    ap (λ n. drop (len + n) clear) (c.space_len.ensures.value ∙ ap (prefix_len is_space) c.past.ensures) ∙ spaces_behind len clear
    in
    let binary : is_hexadecimal c.past-coded.result.now ≡ false = search rules in
    let off : is_hexadecimal coded ≡ false = ap is_hexadecimal (sym (c.past-coded.ensures ∙ spaces)) ∙ binary in
    subst (λ (g : Result (List ℕ) FontFault). GivesFont (λ text. text) c.packed_flat.result g) (ap flat_source (back ∙ spaces) ∙ sym (flat_same clear c.args.tail.now coded off)) c.packed_flat.ensures
