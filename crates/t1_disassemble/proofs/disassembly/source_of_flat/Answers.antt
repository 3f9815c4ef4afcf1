use Rattle.std.proofs.Common.{◌≡◌, List, ℕ, [], ◌++◌, Result, Err, take, drop, sym, subst, rules}
use Rattle.t1_text.specs.Lines.{lines, joined}
use Rattle.t1_disassemble.specs.declared.fault.FontFault.{FontFault}
use Rattle.t1_disassemble.specs.Disassembly.{source_of}
use Rattle.t1_disassemble.specs.Front.{after_eexec, past_spaces}
use Rattle.t1_disassemble.specs.Outcome.{RefusesFont}
use Rattle.t1_disassemble.specs.SourceOnto.{source_onto}
use Rattle.t1_disassemble.proofs.ClearLaws.{behind_clear, clear_fails}
use Rattle.t1_disassemble.proofs.disassembly.source_of_flat.Goals as goal

pub returns-in-Err : goal.returns-in-Err
returns-in-Err c =
    let file = c.args.file.now in
    let len = c.in_ok-len.len in
    let same = behind_clear file [] [] len c.in_ok-len.ensures.within c.in_ok-len.ensures.found c.in_ok-len.ensures.kind in
    let refused : RefusesFont c.in-Err.refusal (source_onto (joined (lines (take len file))) (record { clear = file; coded = []; tail = [] }) (past_spaces (drop len file ++ []))) = search rules in
    subst (λ (g : Result (List ℕ) FontFault). RefusesFont c.in-Err.refusal g) (sym same) refused

pub returns-in_err-len : goal.returns-in_err-len
returns-in_err-len c =
    let file = c.args.file.now in
    let fault = c.in_err-len.field-0.0 in
    let fails : source_of (record { clear = file; coded = []; tail = [] }) (after_eexec file) ≡ Err fault = clear_fails file [] [] fault c.in_err-len.ensures.fault in
    search (rules, fails)
