use Rattle.std.proofs.Common.{◌≡◌, ◌++◌, take, flat_map}
use Rattle.t1_font.specs.Usage.{entered_text}
use Rattle.t1_font.proofs.usage.push_subrs.Given as goal

-- what stands for the numbers so far, after what was there
abbrev pub invariant-loop-number : goal.invariant-loop-number
invariant-loop-number l = l.text.items ≡ l.fn.text.items ++ flat_map entered_text (take l.number-index l.numbers)
