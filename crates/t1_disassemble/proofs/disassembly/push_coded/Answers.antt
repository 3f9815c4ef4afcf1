use Rattle.std.proofs.Common.{◌≡◌, false, ◌<◌, ◌++◌, List, ℕ, Result, length, sym, subst, rules}
use Rattle.t1_disassemble.specs.declared.fault.FontFault.{FontFault}
use Rattle.t1_disassemble.specs.Digits.{is_hexadecimal}
use Rattle.t1_disassemble.specs.Front.{past_spaces}
use Rattle.t1_disassemble.specs.Outcome.{GivesFont}
use Rattle.t1_disassemble.proofs.BinaryLaws.{coded_in_segments}
use Rattle.t1_disassemble.proofs.disassembly.push_coded.Goals as goal

pub returns-then-is_binary : goal.returns-then-is_binary
returns-then-is_binary c =
    let after = c.args.after.now in
    let coded = c.args.coded.now in
    let place : past_spaces (after ++ coded) ≡ coded = search rules in
    let binary : is_hexadecimal coded ≡ false = search rules in
    let some : 0 < length coded = search rules in
    let same = coded_in_segments c.args.text.now c.args.clear.now after coded c.args.tail.now place binary some in
    subst (λ (g : Result (List ℕ) FontFault). GivesFont (λ _. c.push_binary.new.text) c.push_binary.result g) (sym same) c.push_binary.ensures
