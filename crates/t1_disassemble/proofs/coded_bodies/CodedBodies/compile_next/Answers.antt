use Rattle.std.proofs.Common.{◌≡◌, false, map, drop, length, Ok, ◌∙◌}
use Rattle.t1_disassemble.specs.CommandWords.{command_word}
use Rattle.t1_disassemble.specs.Words.{words_of}
use Rattle.t1_disassemble.proofs.CommandLaws.{printed_again, compiled}
use Rattle.t1_disassemble.proofs.coded_bodies.CodedBodies.compile_next.Goals as goal

pub returns-then-branch-clause-value : goal.returns-then-branch-clause-value
returns-then-branch-clause-value c =
    let old = c.args.others.now.items in
    let new = c.push_commands.new.others.items in
    let pushed = c.in_ok-push_commands.ensures in
    let added = drop (length old) new in
    let read : words_of c.in-Some.code.now ≡ Ok (map command_word added) = pushed.read c.if-branch.true in
    compiled old new c.args.words.now c.in-Some.ensures.few (c.in-Some.ensures.code (map command_word added) read ∙ printed_again false added pushed.fits) pushed.fits pushed.front
