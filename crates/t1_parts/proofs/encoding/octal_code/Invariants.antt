use Rattle.std.proofs.Common.{◌≡◌, true, min, ◌&&◌, ◌-◌, ◌+◌, ◌*◌, take, fold, nat_le}
use Rattle.std.specs.List.{list_all}
use Rattle.t1_parts.proofs.encoding.octal_code.Given as goal

-- the digits so far, and their value, kept at the limit plus one
abbrev pub invariant-loop-digit : goal.invariant-loop-digit
invariant-loop-digit l =
    (list_all (λ c. nat_le 48 c && nat_le c 55) (take l.digit-index l.digits) ≡ true)
    × (l.value ≡ min (fold (λ n c. 8 * n + (c - 48)) 0 (take l.digit-index l.digits)) 256)
