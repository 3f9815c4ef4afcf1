use Rattle.std.proofs.Common.{◌≡◌, ◌≤◌, ◌++◌, length, take}
use Rattle.t1_code.proofs.Writing.{passing, Written}
use Rattle.t1_disassemble.specs.SoundWords.{code_lines, sound_words}
use Rattle.t1_disassemble.specs.Words.{printed_words}
use Rattle.t1_disassemble.proofs.charstring.put_words.Given as goal

-- the words that wait, and those that are left
abbrev pub invariant-loop-first : goal.invariant-loop-first
invariant-loop-first g l =
    Written (passing g.W.Write.contents) l.fn.outlet l.outlet (code_lines l.fn.code) (take l.len l.bytes ++ printed_words l.is_open (sound_words l.rest))
    × (l.len ≤ 256) × (length l.bytes ≡ 256)

abbrev pub decreases-loop-first : goal.decreases-loop-first
decreases-loop-first g l = length l.rest
