use Rattle.std.proofs.Common.{◌∙◌, ap, length, refl, Some}
use Rattle.std.proofs.lemmas.Slice.Eq.{bytes_eq-Decides}
use Rattle.t1_code.specs.FoundCommands.{first_word}
use Rattle.t1_code.specs.Words.{operator_named}
use Rattle.t1_code.proofs.Scanning.{past_array}
use Rattle.t1_code.proofs.command.frequent.Goals as goal

pub returns : goal.returns
returns c =
    let text = c.args.text.now in
    let word = c.in-Some.word.now in
    let cut = c.in-Some-split_at_checked in
    let found =
    past_array (length word) word text cut.front.now cut.after.now c.is_same_by_ends.result (Some c.in-Some-past_end.after) refl c.in-Some.ensures.word.0
    cut.ensures.cases.1 cut.ensures.cases.2 c.is_same_by_ends.ensures c.if-not-is_same_by_ends.false c.in-Some-past_end.ensures in
    (ap operator_named ((bytes_eq-Decides (first_word text) word).0 found.0) ∙ c.in-Some.ensures.word.1, found.1)
