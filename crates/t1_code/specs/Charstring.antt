-- Charstring code: the bytes of commands and numbers, and the grammar of such bytes.
use Rattle.std.specs.Prelude.{◌≡◌, ℕ, ◌+◌, ◌-◌, ◌*◌, ◌/◌, ◌%◌, ◌<◌, ◌≤◌, ◌⊎◌, ℤ, pos, negsuc, neg_ℤ, ◌-ℤ◌, nat_le, if◌then◌else◌, List, [], ◌∷◌, ◌++◌, FitsSigned, Result, Ok}
use Rattle.std.specs.List.{flat_map, AllByRecursion}
use Rattle.std.specs.Int.{w32, to_be_bytes, cast_unsigned, cast_signed}
use Rattle.t1_frac.specs.declared.fault.Code.{Code}
use Rattle.t1_frac.specs.Outcome.{◌>>=◌}
use Rattle.t1_code.specs.Words.{commands}
use Rattle.t1_code.specs.declared.command.Command.{Command}
use Rattle.t1_code.specs.declared.command.Command.TheVariants.{Num, HStem, VStem, VMoveTo, RLineTo, HLineTo, VLineTo, RRCurveTo, ClosePath, CallSubr, Return, DotSection, VStem3, HStem3, Seac, Sbw, Div, CallOtherSubr, Pop, SetCurrentPoint, Hsbw, EndChar, RMoveTo, HMoveTo, VHCurveTo, HVCurveTo}

-- Type 1 Font Format, Chapter 6 (charstring number encoding): the two bytes of a size from 108 to 1131, of which the first is so far past the first byte of its kind
abbrev pub two_bytes : ℕ → ℕ → List ℕ
two_bytes first size = (first + (size - 108) / 256) ∷ ((size - 108) % 256) ∷ []

-- Type 1 Font Format, Chapter 6 (charstring number encoding): 255 and four bytes in two's complement, the high byte first
abbrev pub five_bytes : ℤ → List ℕ
five_bytes n = 255 ∷ to_be_bytes w32 (cast_unsigned w32 n)

-- Type 1 Font Format, Chapter 6 (charstring number encoding); profile: a number takes the shortest of its spellings
abbrev pub number_bytes : ℤ → List ℕ
number_bytes (pos n) =
    if nat_le n 107 then (139 + n) ∷ []
    else if nat_le n 1131 then two_bytes 247 n
    else five_bytes (pos n)
number_bytes (negsuc m) =
    if nat_le (m + 1) 107 then (139 - (m + 1)) ∷ []
    else if nat_le (m + 1) 1131 then two_bytes 251 (m + 1)
    else five_bytes (negsuc m)

-- Type 1 Font Format, Chapter 6 (charstring command encoding): the bytes of a command; a number has none here
abbrev pub operator_bytes : Command → List ℕ
operator_bytes (Num n) = []
operator_bytes HStem = 1 ∷ []
operator_bytes VStem = 3 ∷ []
operator_bytes VMoveTo = 4 ∷ []
operator_bytes RLineTo = 5 ∷ []
operator_bytes HLineTo = 6 ∷ []
operator_bytes VLineTo = 7 ∷ []
operator_bytes RRCurveTo = 8 ∷ []
operator_bytes ClosePath = 9 ∷ []
operator_bytes CallSubr = 10 ∷ []
operator_bytes Return = 11 ∷ []
operator_bytes DotSection = 12 ∷ 0 ∷ []
operator_bytes VStem3 = 12 ∷ 1 ∷ []
operator_bytes HStem3 = 12 ∷ 2 ∷ []
operator_bytes Seac = 12 ∷ 6 ∷ []
operator_bytes Sbw = 12 ∷ 7 ∷ []
operator_bytes Div = 12 ∷ 12 ∷ []
operator_bytes CallOtherSubr = 12 ∷ 16 ∷ []
operator_bytes Pop = 12 ∷ 17 ∷ []
operator_bytes SetCurrentPoint = 12 ∷ 33 ∷ []
operator_bytes Hsbw = 13 ∷ []
operator_bytes EndChar = 14 ∷ []
operator_bytes RMoveTo = 21 ∷ []
operator_bytes HMoveTo = 22 ∷ []
operator_bytes VHCurveTo = 30 ∷ []
operator_bytes HVCurveTo = 31 ∷ []

-- Type 1 Font Format, Chapter 6: the bytes of a command or number
abbrev pub command_bytes : Command → List ℕ
command_bytes (Num n) = number_bytes n
command_bytes command = operator_bytes command

-- Type 1 Font Format, Chapter 6: the charstring of commands, one after another
abbrev pub charstring : List Command → List ℕ
charstring commands = flat_map command_bytes commands

-- profile: the charstring of a body's words, or the fault of the words
abbrev pub charstring_of_words : List (List ℕ) → Result (List ℕ) Code
charstring_of_words words = commands words >>= λ read. Ok (charstring read)

-- Type 1 Font Format, Chapter 6 (charstring number encoding): which bytes spell which number, by the first byte v, in each of its forms
abbrev pub SpellsNumber : List ℕ → ℤ → Type 0
SpellsNumber [] n = ⊥
SpellsNumber (v ∷ []) n = (32 ≤ v) × (v ≤ 246) × (n ≡ pos v -ℤ pos 139)
SpellsNumber (v ∷ w ∷ []) n =
    ((247 ≤ v) × (v ≤ 250) × (w < 256) × (n ≡ pos ((v - 247) * 256 + w + 108)))
    ⊎ ((251 ≤ v) × (v ≤ 254) × (w < 256) × (n ≡ neg_ℤ (pos ((v - 251) * 256 + w + 108))))
SpellsNumber (v ∷ w ∷ x ∷ []) n = ⊥
SpellsNumber (v ∷ w ∷ x ∷ y ∷ []) n = ⊥
SpellsNumber (v ∷ a ∷ b ∷ c ∷ d ∷ []) n =
    (v ≡ 255) × (a < 256) × (b < 256) × (c < 256) × (d < 256) × (n ≡ cast_signed w32 (((a * 256 + b) * 256 + c) * 256 + d))
SpellsNumber (v ∷ a ∷ b ∷ c ∷ d ∷ e ∷ rest) n = ⊥

-- Type 1 Font Format, Chapter 6: which bytes spell which command or number
abbrev pub Spells : List ℕ → Command → Type 0
Spells bytes (Num n) = SpellsNumber bytes n
Spells bytes command = bytes ≡ operator_bytes command

-- Type 1 Font Format, Chapter 6: bytes spell a list of commands, one spelling after another
abbrev pub SpellsAll : List ℕ → List Command → Type 0
SpellsAll bytes [] = bytes ≡ []
SpellsAll bytes (command ∷ commands) =
    (front : List ℕ) × (rest : List ℕ) × (bytes ≡ front ++ rest) × Spells front command × SpellsAll rest commands

-- Type 1 Font Format, Chapter 6 (charstring number encoding): a number is one that a charstring can hold
abbrev pub Fits32Bits : Command → Type 0
Fits32Bits (Num n) = FitsSigned w32 n
Fits32Bits command = Unit {0}

-- Type 1 Font Format, Chapter 6: the same of all numbers among commands
abbrev pub AllFit : List Command → Type 0
AllFit commands = AllByRecursion Fits32Bits commands
