-- How far the clear text of a file goes.
use Rattle.std.specs.Prelude.{ℕ, ◌-◌, nat_lt, Bool, false, Option, None, Some, List, length, Result, Ok, Err}
use Rattle.t1_frac.specs.Outcome.{◌>>=◌}
use Rattle.t1_text.specs.Lines.{before_rest}
use Rattle.t1_disassemble.specs.declared.fault.FontCode.TheVariants.{D1}
use Rattle.t1_disassemble.specs.declared.fault.FontFault.{FontFault}
use Rattle.t1_disassemble.specs.declared.fault.FontPlace.TheVariants.{Nowhere}
use Rattle.t1_disassemble.specs.Front.{after_eexec, past_spaces}
use Rattle.t1_disassemble.specs.Kinds.{plain_kind}
use Rattle.t1_disassemble.specs.Outcome.{font_fault_at}

-- word: how many bytes stand before those after the eexec line, or the fault of the clear text
abbrev pub len_before : List ℕ → Option (List ℕ) → Result ℕ FontFault
len_before clear None = plain_kind clear >>= λ kind. Err (font_fault_at Nowhere D1)
len_before clear (Some after) = plain_kind (before_rest clear after) >>= λ kind. Ok (length clear - length after)

-- word: the same of a clear text
abbrev pub clear_len : List ℕ → Result ℕ FontFault
clear_len clear = len_before clear (after_eexec clear)

-- word: whether bytes of the encrypted part stand behind the eexec line
abbrev pub has_coded : Option (List ℕ) → Bool
has_coded None = false
has_coded (Some after) = nat_lt 0 (length (past_spaces after))
