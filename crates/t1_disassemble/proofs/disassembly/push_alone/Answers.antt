use Rattle.std.proofs.Common.{◌≡◌, false, ◌+◌, List, ℕ, [], Result, drop, sym, ap, ◌∙◌, subst, append-nil, rules}
use Rattle.std.specs.List.{prefix_len}
use Rattle.t1_disassemble.specs.declared.fault.FontFault.{FontFault}
use Rattle.t1_disassemble.specs.Digits.{is_hexadecimal}
use Rattle.t1_disassemble.specs.Front.{is_space, past_spaces}
use Rattle.t1_disassemble.specs.Outcome.{GivesFont}
use Rattle.t1_disassemble.specs.SourceOnto.{flat_onto, source_onto}
use Rattle.t1_disassemble.proofs.BinaryLaws.{spaces_behind, flat_on}
use Rattle.t1_disassemble.proofs.disassembly.push_alone.Goals as goal

pub returns : goal.returns
returns c =
    let file = c.args.file.now in
    let len = c.args.len in
    let text = c.args.text.now in
    let coded = past_spaces (drop len file) in
    let back : c.split_at_mut.result.1.now ≡ drop (len + c.space_len.result) file = search rules in
    let spaces : drop (len + c.space_len.result) file ≡ coded =
    ap (λ n. drop (len + n) file) (c.space_len.ensures.value ∙ ap (prefix_len is_space) c.past.ensures) ∙ spaces_behind len file
    in
    let binary : is_hexadecimal c.past-coded.result.now ≡ false = search rules in
    let off : is_hexadecimal coded ≡ false = ap is_hexadecimal (sym (c.past-coded.ensures ∙ spaces)) ∙ binary in
    let same = ap (flat_onto text) (back ∙ spaces) ∙ sym (flat_on text file [] coded off)
    ∙ ap (λ (l : List ℕ). source_onto text (record { clear = file; coded = []; tail = [] }) (past_spaces l)) (sym (append-nil (drop len file))) in
    subst (λ (g : Result (List ℕ) FontFault). GivesFont (λ _. c.push_flat.new.text) c.push_flat.result g) same c.push_flat.ensures
