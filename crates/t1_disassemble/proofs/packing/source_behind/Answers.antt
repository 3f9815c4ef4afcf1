use Rattle.std.proofs.Common.{◌≡◌, [], ◌++◌, List, Ok, ℕ, take, drop, sym, ap, ◌∙◌, rules}
use Rattle.std.proofs.lemmas.Result.{err_from_is_err_and}
use Rattle.t1_text.specs.Lines.{lines, joined}
use Rattle.t1_disassemble.specs.Front.{past_spaces}
use Rattle.t1_disassemble.specs.Outcome.{GivesFont}
use Rattle.t1_disassemble.specs.SegmentsRead.{FontParts}
use Rattle.t1_disassemble.specs.SourceOnto.{source_onto}
use Rattle.t1_disassemble.proofs.PackingLaws.{behind_ok, error_behind}
use Rattle.t1_disassemble.proofs.packing.source_behind.Goals as goal

pub returns-in_err-lines : goal.returns-in_err-lines
returns-in_err-lines c =
    let parts : FontParts = record { clear = c.args.clear.now; coded = c.args.coded.now; tail = c.args.tail.now } in
    let coded = past_spaces (drop c.args.len parts.clear ++ parts.coded) in
    let alone : GivesFont (λ (text : List ℕ). text) c.from_residual-in_err-lines.result (source_onto [] parts coded) = search rules in
    let error = err_from_is_err_and c.from_residual-in_err-lines.result c.from_residual-in_err-lines.ensures.1 in
    error_behind (joined (lines (take c.args.len parts.clear))) parts coded c.from_residual-in_err-lines.result error.0 error.1 alone

pub returns : goal.returns
returns c =
    let parts : FontParts = record { clear = c.args.clear.now; coded = c.args.coded.now; tail = c.args.tail.now } in
    let front = take c.args.len parts.clear in
    let coded = past_spaces (drop c.args.len parts.clear ++ parts.coded) in
    let alone : source_onto [] parts coded ≡ Ok c.in_ok-lines.lines = search rules in
    let text : c.push_lines_of.new.text.items ≡ joined (lines front) = search rules in
    behind_ok (joined (lines front)) parts coded c.in_ok-lines.lines alone ∙ ap (λ (l : List ℕ). Ok (l ++ c.in_ok-lines.lines)) (sym text)
