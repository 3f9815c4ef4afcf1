use Rattle.std.proofs.Common.{◌≡◌, ◌≤◌, ◌++◌, length, take, false}
use Rattle.t1_disassemble.specs.Words.{words_of}
use Rattle.t1_disassemble.specs.WordsOnto.{words_onto}
use Rattle.t1_disassemble.proofs.charstring.push_words.Given as goal

-- the text so far with the words that wait, and the words that are left
abbrev pub invariant-loop-first : goal.invariant-loop-first
invariant-loop-first l =
    (words_onto (l.text.items ++ take l.len l.bytes) l.is_open (words_of l.rest) ≡ words_onto l.fn.text.items false (words_of l.fn.code))
    × (l.len ≤ 256) × (length l.bytes ≡ 256)

abbrev pub decreases-loop-first : goal.decreases-loop-first
decreases-loop-first l = length l.rest
