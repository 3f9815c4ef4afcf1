-- Lines and digits, as loops read them.
use Rattle.std.specs.Prelude.{ℕ, List, ◌==◌, Bool, not}
use Rattle.t1_disassemble.specs.declared.fault.FontRefusal.{FontRefusal}
use Rattle.t1_disassemble.specs.declared.fault.FontRefusal.TheVariants as refusals
use Rattle.t1_disassemble.specs.CutDigits.{digits_fault}
use Rattle.t1_frac.specs.Ascii.{slash}

-- word: the same of what a call refuses
abbrev pub digits_refusal : ℕ → List ℕ → FontRefusal → FontRefusal
digits_refusal place coded (refusals.Fault fault) = refusals.Fault (digits_fault place coded fault)
digits_refusal place coded refusals.Memory = refusals.Memory

-- word, sections: whether a byte is no slash, without which no section line is
abbrev pub slashless : ℕ → Bool
slashless c = not (c == slash)
