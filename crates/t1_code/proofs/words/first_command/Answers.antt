use Rattle.t1_code.specs.FoundCommands.{first_word}
use Rattle.t1_code.proofs.Scanning.{no_number_named, past_named, first_unknown}
use Rattle.t1_code.proofs.words.first_command.Goals as goal

pub returns-in-Some-clause-value : goal.returns-in-Some-clause-value
returns-in-Some-clause-value c =
    let text = c.args.rest.now in
    let found = past_named text text c.in-Some.after.now c.in-Some.command c.requires (no_number_named (first_word text) c.in-Some.command c.in-Some.ensures.0) c.in-Some.ensures.0 c.in-Some.ensures.1 in
    found.0

pub returns-in-Some-clause-shorter : goal.returns-in-Some-clause-shorter
returns-in-Some-clause-shorter c =
    let text = c.args.rest.now in
    let found = past_named text text c.in-Some.after.now c.in-Some.command c.requires (no_number_named (first_word text) c.in-Some.command c.in-Some.ensures.0) c.in-Some.ensures.0 c.in-Some.ensures.1 in
    found.1

pub returns-clause-value : goal.returns-clause-value
returns-clause-value c =
    let text = c.args.rest.now in
    first_unknown text text c.in-Some-next_word._word.now c.in-Some-next_word.after.now
    c.requires c.in_default-first_number.ensures.value c.in_default.ensures c.in-Some-next_word.ensures.value
