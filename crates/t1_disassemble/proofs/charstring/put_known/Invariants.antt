use Rattle.std.proofs.Common.{◌≡◌, ◌≤◌, ◌++◌, ℕ, List, length, take}
use Rattle.t1_disassemble.specs.KnownWords.{HasBlank}
use Rattle.t1_disassemble.specs.Words.{words_of}
use Rattle.t1_disassemble.specs.WordsOnto.{words_onto}
use Rattle.t1_disassemble.proofs.charstring.put_known.Given as goal

-- the words that wait with the blank behind them, and the words that are left
abbrev pub invariant-loop-end : goal.invariant-loop-end
invariant-loop-end l = record {
  same : (text : List ℕ) → words_onto (text ++ take l.end l.bytes) l.opened (words_of l.rest) ≡ words_onto (text ++ take l.fn.len l.fn.bytes) l.fn.is_open (words_of l.fn.code);
  blank : HasBlank l.end l.opened l.bytes;
  within : l.end ≤ 255;
  shorter : length l.rest ≤ length l.fn.code;
  size : length l.bytes ≡ 256;
}

abbrev pub decreases-loop-end : goal.decreases-loop-end
decreases-loop-end l = length l.rest
