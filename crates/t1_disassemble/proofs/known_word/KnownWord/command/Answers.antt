use Rattle.std.proofs.Common.{◌≡◌, ◌∷◌, [], ◌++◌, false, rules}
use Rattle.t1_disassemble.proofs.KnownWordLaws.{known_as, command_known}
use Rattle.t1_disassemble.proofs.known_word.KnownWord.command.Goals as goal

pub kept-requires : goal.kept-requires
kept-requires c =
    let text : c.split_at.result.0.now ≡ c.args.word.now ++ 10 ∷ [] = search rules in
    known_as c.args.first false (c.args.word.now ++ 10 ∷ []) c.split_at.result.0.now text
    (command_known c.args.first c.args.word.now c.requires.small c.requires.alone c.requires.word c.requires.operator)
