use Rattle.std.proofs.Common.{◌≡◌, ◌++◌, ◌∷◌, [], Ok, rules}
use Rattle.t1_frac.specs.Words.{words}
use Rattle.t1_code.specs.declared.command.Command.TheVariants.{Div}
use Rattle.t1_code.specs.Words.{command_then, commands_of_words}
use Rattle.t1_code.proofs.Reading.{front_stays, read_more}
use Rattle.t1_code.proofs.words.read_words.Goals as goal

pub words-preserved-in-Some : goal.words-preserved-in-Some
words-preserved-in-Some c =
    let pushed : c.add.new.commands.items ≡ c.words.read.items ++ c.in-Some.command ∷ [] = search rules in
    let step : commands_of_words (words c.words.rest.now) ≡ command_then (Ok c.in-Some.command) (commands_of_words (words c.in-Some.after.now)) = search rules in
    record {
      read = read_more _ _ _ _ _ _ pushed step c.words.invariant.read;
      front = front_stays _ _ _ _ pushed c.words.invariant.front;
    }

pub words-preserved-in-Some-after_div : goal.words-preserved-in-Some-after_div
words-preserved-in-Some-after_div c =
    let pushed : c.add-in-Some-after_div.new.commands.items ≡ c.words.read.items ++ Div ∷ [] = search rules in
    let step : commands_of_words (words c.words.rest.now) ≡ command_then (Ok Div) (commands_of_words (words c.from_word-rest-in-Some-after_div.result.now)) = search rules in
    record {
      read = read_more _ _ _ _ _ _ pushed step c.words.invariant.read;
      front = front_stays _ _ _ _ pushed c.words.invariant.front;
    }

pub words-preserved-in-Some-frequent_command : goal.words-preserved-in-Some-frequent_command
words-preserved-in-Some-frequent_command c =
    let command = c.in-Some-frequent_command.command in
    let pushed : c.add-in-Some-frequent_command.new.commands.items ≡ c.words.read.items ++ command ∷ [] = search rules in
    let step : commands_of_words (words c.words.rest.now) ≡ command_then (Ok command) (commands_of_words (words c.from_word-rest-in-Some-frequent_command.result.now)) = search rules in
    record {
      read = read_more _ _ _ _ _ _ pushed step c.words.invariant.read;
      front = front_stays _ _ _ _ pushed c.words.invariant.front;
    }

pub words-preserved : goal.words-preserved
words-preserved c =
    let pushed : c.add-in-words.new.commands.items ≡ c.words.read.items ++ c.in_ok-command.field-0 ∷ [] = search rules in
    let step : commands_of_words (words c.words.rest.now) ≡ command_then (Ok c.in_ok-command.field-0) (commands_of_words (words c.from_word-rest-in-words.result.now)) = search rules in
    record {
      read = read_more _ _ _ _ _ _ pushed step c.words.invariant.read;
      front = front_stays _ _ _ _ pushed c.words.invariant.front;
    }
