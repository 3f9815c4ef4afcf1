use Rattle.std.proofs.Common.{◌≡◌, ◌≤◌, ℕ, List, drop, length, ap, ◌∙◌, rules, arith}
use Rattle.std.proofs.lemmas.List.{length-drop}
use Rattle.t1_disassemble.specs.Digits.{digits_len}
use Rattle.t1_disassemble.proofs.CutPlaces.{digits_past}
use Rattle.t1_disassemble.proofs.packing.digits_end.Goals as goal

pub returns : goal.returns
returns c =
    let clear = c.args.clear.now in
    let after = drop c.args.len clear in
    let coded = c.args.coded.now in
    let within : c.args.len ≤ length clear = search rules in
    let digits : c.digits_len-digits.result ≡ digits_len after = c.digits_len-digits.ensures.value ∙ ap (λ (l : List ℕ). digits_len l) c.past-after.ensures in
    let seen : length c.past-after.result.now ≤ c.digits_len-digits.result = search rules in
    let many : length after ≤ digits_len after = omega (arith, seen, digits, ap (λ (l : List ℕ). length l) c.past-after.ensures) in
    let behind : c.digits_len.result ≡ digits_len coded = search rules in
    omega (arith, within, digits_past after coded many, behind, length-drop c.args.len clear)
