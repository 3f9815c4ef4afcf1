use Rattle.t1_code.specs.FoundCommands.{first_word}
use Rattle.t1_code.proofs.Scanning.{no_number_named, past_named}
use Rattle.t1_code.proofs.words.frequent_command.Goals as goal

pub returns : goal.returns
returns c =
    let text = c.args.rest.now in
    past_named text text c.in-Some.after.now c.in-Some.command c.requires (no_number_named (first_word text) c.in-Some.command c.in-Some.ensures.0) c.in-Some.ensures.0 c.in-Some.ensures.1
