use Rattle.std.proofs.Common.{◌≡◌, ◌++◌, List, Ok, Some, ℕ, Result, sym, ap, ◌∙◌, subst, rules}
use Rattle.t1_text.specs.Lines.{lines, joined, before_rest}
use Rattle.t1_disassemble.specs.declared.fault.FontFault.{FontFault}
use Rattle.t1_disassemble.specs.Disassembly.{source_of}
use Rattle.t1_disassemble.specs.Front.{after_eexec, past_spaces}
use Rattle.t1_disassemble.specs.Kinds.{plain_kind}
use Rattle.t1_disassemble.specs.Outcome.{GivesFont}
use Rattle.t1_disassemble.specs.SegmentsRead.{FontParts}
use Rattle.t1_disassemble.specs.SourceOnto.{source_onto}
use Rattle.t1_disassemble.proofs.WholeLaws.{kind_again}
use Rattle.t1_disassemble.proofs.disassembly.source_of_parts.Goals as goal

pub returns-in_err-push_coded : goal.returns-in_err-push_coded
returns-in_err-push_coded c =
    let parts : FontParts = record { clear = c.args.clear.now; coded = c.args.coded.now; tail = c.args.tail.now } in
    let front = c.split_at.result.0.now in
    let after = c.in-Some.after.now in
    let found : after_eexec parts.clear ≡ Some after = search rules in
    let before : before_rest parts.clear after ≡ front = search rules in
    let kind : plain_kind front ≡ Ok front = search rules in
    let same = ap (source_of parts) found ∙ kind_again parts after front before kind in
    subst (λ (g : Result (List ℕ) FontFault). GivesFont (λ text. text) c.from_residual-in_err-push_coded.result g) (sym same) (search rules)

pub returns : goal.returns
returns c =
    let parts : FontParts = record { clear = c.args.clear.now; coded = c.args.coded.now; tail = c.args.tail.now } in
    let front = c.split_at.result.0.now in
    let after = c.in-Some.after.now in
    let found : after_eexec parts.clear ≡ Some after = search rules in
    let before : before_rest parts.clear after ≡ front = search rules in
    let kind : plain_kind front ≡ Ok front = search rules in
    let made : source_onto (joined (lines front)) parts (past_spaces (after ++ parts.coded)) ≡ Ok c.push_coded.new.text = search rules in
    ap (source_of parts) found ∙ kind_again parts after front before kind ∙ made
