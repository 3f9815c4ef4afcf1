-- A private text in hexadecimal that ends too early, since another byte stands among its digits.
use Rattle.std.specs.Prelude.{ℕ, Bool, true, false, ◌&&◌, ◌+◌, nat_lt, if◌then◌else◌, List, length, Result, Ok, Err}
use Rattle.t1_disassemble.specs.declared.fault.FontCode.{FontCode}
use Rattle.t1_disassemble.specs.declared.fault.FontCode.TheVariants.{D1, D2, D3, D4, D5, D6, D7, D8, D9, D10, D11, D12, D13, D14, D15, D16, D17}
use Rattle.t1_disassemble.specs.declared.fault.FontFault.{FontFault}
use Rattle.t1_disassemble.specs.declared.fault.FontPlace.TheVariants.{Byte}
use Rattle.t1_disassemble.specs.Digits.{is_hexadecimal, digits_len}
use Rattle.t1_disassemble.specs.Outcome.{font_fault_at}

-- profile, faults: whether a fault is that of a private text which ends too early
abbrev pub is_early : FontCode → Bool
is_early D1 = false
is_early D2 = false
is_early D3 = false
is_early D4 = true
is_early D5 = true
is_early D6 = false
is_early D7 = false
is_early D8 = false
is_early D9 = false
is_early D10 = false
is_early D11 = false
is_early D12 = false
is_early D13 = false
is_early D14 = false
is_early D15 = false
is_early D16 = false
is_early D17 = false

-- Type 1 Font Format, 7.2 (eexec): digits with another byte among them, before the end
abbrev pub is_cut : List ℕ → Bool
is_cut coded = is_hexadecimal coded && nat_lt (digits_len coded) (length coded)

-- profile, faults: a fault of an encrypted part that has its place in the file; another byte among its digits comes first
abbrev pub digits_fault : ℕ → List ℕ → FontFault → FontFault
digits_fault place coded fault = if is_early fault.code && is_cut coded then font_fault_at (Byte (place + digits_len coded)) D3 else fault

-- profile, faults: what is read of an encrypted part, or its first fault
abbrev pub with_digits : {X : Type 0} → ℕ → List ℕ → Result X FontFault → Result X FontFault
with_digits place coded (Ok x) = Ok x
with_digits place coded (Err fault) = Err (digits_fault place coded fault)
