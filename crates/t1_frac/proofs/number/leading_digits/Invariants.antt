use Rattle.std.proofs.Common.{◌≡◌, ◌+◌, ◌-◌, ◌^◌, ◌≤◌, min, take, drop, length}
use Rattle.std.specs.List.{prefix_len}
use Rattle.std.specs.Char.{is_ascii_digit}
use Rattle.t1_frac.specs.Numbers.{decimal_value}
use Rattle.t1_frac.proofs.number.leading_digits.Given as goal

-- the bytes so far are digits, with this value, kept at 2^64 - 1
abbrev pub invariant-loop-byte : goal.invariant-loop-byte
invariant-loop-byte l = record {
  at : l.count ≡ l.byte-index;
  within : l.count ≤ length l.text;
  digits : prefix_len is_ascii_digit l.text ≡ l.count + prefix_len is_ascii_digit (drop l.count l.text);
  value : l.value ≡ min (decimal_value (take l.count l.text)) (2 ^ 64 - 1);
}
