use Rattle.std.proofs.Common.{◌≡◌, Err, rules}
use Rattle.t1_disassemble.specs.Disassembly.{source_of}
use Rattle.t1_disassemble.specs.Front.{after_eexec}
use Rattle.t1_disassemble.proofs.ClearLaws.{clear_fails}
use Rattle.t1_disassemble.proofs.packing.source_of_parts.Goals as goal

pub returns-in_err-len : goal.returns-in_err-len
returns-in_err-len c =
    let clear = c.args.clear.now in
    let coded = c.args.coded.now in
    let tail = c.args.tail.now in
    let fault = c.in_err-len.field-0.0 in
    let fails : source_of (record { clear = clear; coded = coded; tail = tail }) (after_eexec clear) ≡ Err fault = clear_fails clear coded tail fault c.in_err-len.ensures.fault in
    search (rules, fails)
