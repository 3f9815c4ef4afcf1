use Rattle.std.proofs.Common.{◌≡◌, ◌==◌, false, ◌≤◌, ◌<◌, ◌++◌, ℕ, List, Result, take, drop, length, sym, ap, ◌∙◌, subst, rules, arith}
use Rattle.std.proofs.lemmas.Bool.{eqb-false}
use Rattle.t1_text.specs.Lines.{lines, joined}
use Rattle.t1_disassemble.specs.declared.fault.FontFault.{FontFault}
use Rattle.t1_disassemble.specs.Front.{past_spaces}
use Rattle.t1_disassemble.specs.Outcome.{GivesFont}
use Rattle.t1_disassemble.specs.SourceOnto.{source_onto}
use Rattle.t1_disassemble.proofs.BinaryLaws.{whole_parts}
use Rattle.t1_disassemble.proofs.packing.source_of_joined.Goals as goal

pub returns : goal.returns
returns c =
    let clear = c.args.clear.items in
    let len = c.args.len in
    let segments = c.args.coded.items in
    let tail = c.args.tail.now in
    let front = c.split_at_mut.result.0.now in
    let whole = c.in_ok-whole.whole.items in
    let within : len ≤ length clear = search rules in
    let full : c.is_empty.result ≡ false = search rules in
    let zero : (length segments == 0) ≡ false = ap (λ (l : List ℕ). length l == 0) (sym c.as_slice.ensures.value) ∙ sym c.is_empty.ensures ∙ full in
    let some : 0 < length segments = omega (arith, eqb-false (length segments) 0 zero) in
    let cut : front ≡ take len clear = search rules in
    let all : whole ≡ drop len clear ++ segments = search rules in
    let given : GivesFont (λ (text : List ℕ). text) c.source_behind-2.result (source_onto (joined (lines (take len front))) (record { clear = front; coded = whole; tail = tail }) (past_spaces (drop len front ++ whole))) = search rules in
    subst (λ (g : Result (List ℕ) FontFault). GivesFont (λ (text : List ℕ). text) c.source_behind-2.result g) (sym (whole_parts clear front segments tail whole len within some cut all)) given
