-- Bytes on their way into lines of hexadecimal digits, one after another.
use Rattle.std.specs.Prelude.{ℕ, zero, suc, nat_eq, if◌then◌else◌, List, [], ◌∷◌, ◌++◌, fold}
use Rattle.t1_frac.specs.Ascii.{line_feed}
use Rattle.t1_code.specs.Pfa.{digits_of_byte}

-- word: the digits of the bytes, with the ends of the lines that end among them, where the present line takes so many bytes more
abbrev pub in_lines : ℕ → List ℕ → List ℕ
in_lines room [] = []
in_lines zero (byte ∷ bytes) = line_feed ∷ digits_of_byte byte ++ in_lines 31 bytes
in_lines (suc room) (byte ∷ bytes) = digits_of_byte byte ++ in_lines room bytes

-- word: how many bytes the line takes after one more
abbrev pub next_room : ℕ → ℕ
next_room zero = 31
next_room (suc room) = room

-- word: the same after these bytes
abbrev pub room_after : ℕ → List ℕ → ℕ
room_after room bytes = fold (λ room byte. next_room room) room bytes

-- word: the end of the present line, where it is full
abbrev pub line_end_due : ℕ → List ℕ
line_end_due room = if nat_eq room 0 then line_feed ∷ [] else []

-- word: how many bytes the line that goes on takes, a new one where it is full
abbrev pub refilled : ℕ → ℕ
refilled room = if nat_eq room 0 then 32 else room
