-- The digits of bytes, with the ends of lines.
use Rattle.std.proofs.Common.{◌≡◌, ℕ, zero, suc, ◌-◌, ◌*◌, ◌<◌, ◌≤◌, List, [], ◌∷◌, ◌++◌, length, refl, ap, ◌∙◌, arith}
use Rattle.std.specs.List.{flat_map, onto_first}
use Rattle.t1_code.specs.Hexadecimal.{in_lines, line_end_due, next_room, refilled, room_after}
use Rattle.t1_code.specs.Pfa.{digits_of_byte, line_of_digits, hexadecimal_lines}
use Rattle.t1_code.proofs.Blocks.{blocks_from, blocks_in_turn}
use Rattle.t1_code.proofs.Carrying.{IsChange}
use Rattle.t1_code.proofs.Segmenting.{some_is}

in_lines-append : (room : ℕ) (xs ys : List ℕ) → in_lines room (xs ++ ys) ≡ in_lines room xs ++ in_lines (room_after room xs) ys
in_lines-append room [] ys = refl
in_lines-append zero (x ∷ xs) ys = ap (λ l. 10 ∷ digits_of_byte x ++ l) (in_lines-append 31 xs ys)
in_lines-append (suc room) (x ∷ xs) ys = ap (λ l. digits_of_byte x ++ l) (in_lines-append room xs ys)

room_after-append : (room : ℕ) (xs ys : List ℕ) → room_after room (xs ++ ys) ≡ room_after (room_after room xs) ys
room_after-append room [] ys = refl
room_after-append room (x ∷ xs) ys = room_after-append (next_room room) xs ys

pub lining : IsChange in_lines room_after
lining = record { join = in_lines-append; twice = room_after-append }

onto_some : (digit : ℕ) (blocks : List (List ℕ)) → 0 < length (onto_first digit blocks)
onto_some digit [] = omega arith
onto_some digit (block ∷ blocks) = omega arith

pub blocks_some : (size room : ℕ) (digits : List ℕ) → 0 < length (blocks_from size room digits)
blocks_some size room [] = omega arith
blocks_some size zero (digit ∷ digits) = omega arith
blocks_some size (suc room) (digit ∷ digits) = onto_some digit (blocks_from size room digits)

lines_onto : (digit : ℕ) (blocks : List (List ℕ)) → 0 < length blocks → flat_map line_of_digits (onto_first digit blocks) ≡ digit ∷ flat_map line_of_digits blocks
lines_onto digit [] h = absurd (omega arith)
lines_onto digit (block ∷ blocks) h = refl

two_onto : (high low size room : ℕ) (digits : List ℕ)
    → flat_map line_of_digits (onto_first high (onto_first low (blocks_from size room digits))) ≡ high ∷ low ∷ flat_map line_of_digits (blocks_from size room digits)
two_onto high low size room digits =
    let blocks = blocks_from size room digits in
    lines_onto high (onto_first low blocks) (onto_some low blocks) ∙ ap (λ l. high ∷ l) (lines_onto low blocks (blocks_some size room digits))

lines_from : (room digits : ℕ) (bytes : List ℕ) → digits ≡ 2 * room → flat_map line_of_digits (blocks_from 64 digits (flat_map digits_of_byte bytes)) ≡ in_lines room bytes ++ 10 ∷ []
lines_from room digits [] e = refl
lines_from zero zero (x ∷ bytes) e =
    ap (λ l. 10 ∷ l) (two_onto _ _ 64 62 (flat_map digits_of_byte bytes) ∙ ap (λ l. digits_of_byte x ++ l) (lines_from 31 62 bytes refl))
lines_from zero (suc digits) (x ∷ bytes) e = absurd (omega (arith, e))
lines_from (suc room) zero (x ∷ bytes) e = absurd (omega (arith, e))
lines_from (suc room) (suc zero) (x ∷ bytes) e = absurd (omega (arith, e))
lines_from (suc room) (suc (suc digits)) (x ∷ bytes) e =
    two_onto _ _ 64 digits (flat_map digits_of_byte bytes) ∙ ap (λ l. digits_of_byte x ++ l) (lines_from room digits bytes (omega (arith, e)))

-- no end is due where the line takes more
pub no_end : (room : ℕ) → 0 < room → [] ≡ line_end_due room
no_end room more = rw (some_is room more) refl

-- a full line: its end, and the room of the next one
pub end_given : (room : ℕ) → room ≤ 0 → (10 ∷ [] ≡ line_end_due room) × (32 ≡ refilled room)
end_given zero full = (refl, refl)
end_given (suc room) full = absurd (omega (arith, full))

-- a byte's digits, after the end of a full line
pub byte_in_line : (room byte : ℕ) → (in_lines room (byte ∷ []) ≡ line_end_due room ++ digits_of_byte byte) × (next_room room ≡ refilled room - 1)
byte_in_line zero byte = (refl, refl)
byte_in_line (suc room) byte = rw (some_is (suc room) (omega arith)) (refl, omega arith)

-- the lines are the digits with the ends of the lines among them, and the end of the last
pub lines_are : (bytes : List ℕ) → hexadecimal_lines bytes ≡ in_lines 32 bytes ++ 10 ∷ []
unfolding hexadecimal_lines
lines_are bytes = ap (flat_map line_of_digits) (blocks_in_turn 64 (flat_map digits_of_byte bytes) (omega arith)) ∙ lines_from 32 64 bytes refl
