use Rattle.std.proofs.Common.{rules}
use Rattle.t1_disassemble.proofs.KnownWordLaws.{known_as}
use Rattle.t1_disassemble.proofs.known_word.KnownWord.kept.Goals as goal

pub invariant_of-result : goal.invariant_of-result
invariant_of-result c = (search rules, c.filled.ensures.blank, known_as c.args.first c.args.is_number c.args.text.now _ c.filled.ensures.text c.requires)
