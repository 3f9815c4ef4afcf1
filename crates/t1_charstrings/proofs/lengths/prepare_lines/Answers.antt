use Rattle.std.proofs.Common.{refl, rules}
use Rattle.t1_source.specs.EditedSource.{made_of}
use Rattle.t1_charstrings.specs.declared.settling.ReadyCharstrings.TheVariants as ready
use Rattle.t1_charstrings.specs.Ready.{HasCharstringRoom}
use Rattle.t1_charstrings.proofs.Batches.{entries_ready}
use Rattle.t1_charstrings.proofs.lengths.prepare_lines.Goals as goal

pub returns-clause-ready : goal.returns-clause-ready
returns-clause-ready c =
    let new = c.make_room.new.charstrings in
    let entries = c.args.entries in
    let room : HasCharstringRoom (ready.Edited entries) new = search rules in
    entries_ready c.args.source.now (made_of c.args.made.now) c.args.charstrings.now new entries c.in_ok-len.len (record { charstrings = ready.Edited entries; len = c.in_ok-len.len }) c.requires.edits c.in_ok-len.ensures.lead
    c.in_ok-make_room.ensures.same refl room c.in_ok-len.ensures.len
