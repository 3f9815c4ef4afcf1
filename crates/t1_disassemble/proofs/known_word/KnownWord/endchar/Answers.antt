use Rattle.std.proofs.Common.{refl, rules}
use Rattle.t1_disassemble.proofs.KnownWordLaws.{endchar_known}
use Rattle.t1_disassemble.proofs.known_word.KnownWord.endchar.Goals as goal

pub invariant_of-result : goal.invariant_of-result
invariant_of-result c = (search rules, refl, endchar_known)
