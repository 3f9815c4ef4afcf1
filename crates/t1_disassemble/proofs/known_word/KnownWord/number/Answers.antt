use Rattle.std.proofs.Common.{◌≡◌, true, rules}
use Rattle.std.specs.Fmt.{signed_decimal}
use Rattle.t1_disassemble.proofs.KnownWordLaws.{known_as, number_known}
use Rattle.t1_disassemble.proofs.known_word.KnownWord.number.Goals as goal

pub kept-requires : goal.kept-requires
kept-requires c =
    let text : c.split_at.result.0.now ≡ signed_decimal c.args.number = search rules in
    known_as c.args.first true (signed_decimal c.args.number) c.split_at.result.0.now text
    (number_known c.args.first c.args.number c.requires.low c.requires.high c.requires.value c.ranges.number)
