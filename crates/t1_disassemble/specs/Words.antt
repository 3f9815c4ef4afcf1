-- The words of a charstring's bytes.
use Rattle.std.specs.Prelude.{ℕ, ◌+◌, ◌-◌, ◌*◌, ◌==◌, ℤ, pos, neg_ℤ, ◌-ℤ◌, Bool, true, false, nat_lt, nat_eq, if◌then◌else◌, List, [], ◌∷◌, ◌++◌, length, codes, Option, None, Some, Result, Ok, Err}
use Rattle.std.specs.Fmt.{signed_decimal}
use Rattle.std.specs.Int.{w32, cast_signed, from_be_bytes}
use Rattle.std.specs.Map.{lookup}
use Rattle.t1_frac.specs.Ascii.{line_feed, space, tab}
use Rattle.t1_frac.specs.Numbers.{is_number_word}
use Rattle.t1_frac.specs.Outcome.{◌>>=◌}
use Rattle.t1_disassemble.specs.declared.fault.FontCode.{FontCode}
use Rattle.t1_disassemble.specs.declared.fault.FontCode.TheVariants.{D6, D7, D8}
use Rattle.t1_disassemble.specs.Cuts.{pieces}
use Rattle.t1_disassemble.specs.Decipher.{decrypted_charstring}

-- Type 1 Font Format, Chapter 6 (charstring command encoding): the commands of one byte, and their words
abbrev pub one_byte_words : List (ℕ × List ℕ)
one_byte_words =
    (1, codes "hstem") ∷
    (3, codes "vstem") ∷
    (4, codes "vmoveto") ∷
    (5, codes "rlineto") ∷
    (6, codes "hlineto") ∷
    (7, codes "vlineto") ∷
    (8, codes "rrcurveto") ∷
    (9, codes "closepath") ∷
    (10, codes "callsubr") ∷
    (11, codes "return") ∷
    (13, codes "hsbw") ∷
    (14, codes "endchar") ∷
    (21, codes "rmoveto") ∷
    (22, codes "hmoveto") ∷
    (30, codes "vhcurveto") ∷
    (31, codes "hvcurveto") ∷
    []

-- Type 1 Font Format, Chapter 6 (charstring command encoding): the commands of 12 and a second byte, by that byte
abbrev pub two_byte_words : List (ℕ × List ℕ)
two_byte_words =
    (0, codes "dotsection") ∷
    (1, codes "vstem3") ∷
    (2, codes "hstem3") ∷
    (6, codes "seac") ∷
    (7, codes "sbw") ∷
    (12, codes "div") ∷
    (16, codes "callothersubr") ∷
    (17, codes "pop") ∷
    (33, codes "setcurrentpoint") ∷
    []

-- profile: a word that was found, and the bytes after it; a fault where there is none
abbrev pub found_word : List ℕ → Option (List ℕ) → Result (List ℕ × List ℕ) FontCode
found_word rest None = Err D7
found_word rest (Some word) = Ok (word, rest)

-- Type 1 Font Format, Chapter 6 (charstring command encoding): the command after the byte 12
abbrev pub escaped_at : List ℕ → Result (List ℕ × List ℕ) FontCode
escaped_at [] = Err D7
escaped_at (w ∷ rest) = found_word rest (lookup (nat_eq w) two_byte_words)

-- Type 1 Font Format, Chapter 6 (charstring command encoding): the command that begins with this byte, below 32, and the bytes after it
abbrev pub operator_at : ℕ → List ℕ → Result (List ℕ × List ℕ) FontCode
operator_at v rest = if v == 12 then escaped_at rest else found_word rest (lookup (nat_eq v) one_byte_words)

-- Type 1 Font Format, Chapter 6 (charstring number encoding): the first byte is from 247 to 250
abbrev pub positive_at : ℕ → List ℕ → Result (ℤ × List ℕ) FontCode
positive_at v [] = Err D8
positive_at v (w ∷ rest) = Ok (pos ((v - 247) * 256 + w + 108), rest)

-- Type 1 Font Format, Chapter 6 (charstring number encoding): the first byte is from 251 to 254
abbrev pub negative_at : ℕ → List ℕ → Result (ℤ × List ℕ) FontCode
negative_at v [] = Err D8
negative_at v (w ∷ rest) = Ok (neg_ℤ (pos ((v - 251) * 256 + w + 108)), rest)

-- Type 1 Font Format, Chapter 6 (charstring number encoding): four bytes in two's complement, the high byte first
abbrev pub long_at : List ℕ → Result (ℤ × List ℕ) FontCode
long_at (a ∷ b ∷ c ∷ d ∷ rest) = Ok (cast_signed w32 (from_be_bytes w32 (a ∷ b ∷ c ∷ d ∷ [])), rest)
long_at _ = Err D8

-- Type 1 Font Format, Chapter 6 (charstring number encoding): the number that begins with this byte, from 32 to 255, and the bytes after it
abbrev pub number_at : ℕ → List ℕ → Result (ℤ × List ℕ) FontCode
number_at v rest =
    if nat_lt v 247 then Ok (pos v -ℤ pos 139, rest)
    else if nat_lt v 251 then positive_at v rest
    else if nat_lt v 255 then negative_at v rest
    else long_at rest

-- Type 1 Font Format, Chapter 6: a number as its word
abbrev pub number_word_at : ℕ → List ℕ → Result (List ℕ × List ℕ) FontCode
number_word_at v rest = number_at v rest >>= λ found. Ok (signed_decimal found.0, found.1)

-- Type 1 Font Format, Chapter 6: the word of the number or command that begins with this byte, and the bytes after it
unfoldable pub word_at : ℕ → List ℕ → Result (List ℕ × List ℕ) FontCode
word_at v rest = if nat_lt v 32 then operator_at v rest else number_word_at v rest

-- Type 1 Font Format, Chapter 6: the word at the front of some bytes, and the bytes after it
abbrev pub front_word : List ℕ → Result (List ℕ × List ℕ) FontCode
front_word [] = Err D7
front_word (v ∷ rest) = word_at v rest

-- profile: what is left after a word; nothing where there is none
abbrev pub word_left : Result (List ℕ × List ℕ) FontCode → List ℕ
word_left (Ok found) = found.1
word_left (Err code) = []

-- Type 1 Font Format, Chapter 6: the words that begin at these places, or the fault of the first bytes that are none
abbrev pub words_at : List (List ℕ) → Result (List (List ℕ)) FontCode
words_at [] = Ok []
words_at (from ∷ others) = front_word from >>= λ found. words_at others >>= λ words. Ok (found.0 ∷ words)

-- Type 1 Font Format, Chapter 6: the words of a charstring, one after another
unfoldable pub words_of : List ℕ → Result (List (List ℕ)) FontCode
words_of code = words_at (pieces (λ bytes. word_left (front_word bytes)) code)

-- Type 1 Font Format, Chapter 7: the words of an encrypted charstring
unfoldable pub words_of_encrypted : ℕ → List ℕ → Result (List (List ℕ)) FontCode
words_of_encrypted lead bytes = if nat_lt (length bytes) lead then Err D6 else words_of (decrypted_charstring lead bytes)

-- profile, printing: the words, each line of them after a tab, with one space between words; a line ends after each word that
-- isn't a number word, and after the last word
abbrev pub printed_words : Bool → List (List ℕ) → List ℕ
printed_words is_open [] = if is_open then line_feed ∷ [] else []
printed_words is_open (w ∷ ws) =
    (if is_open then space else tab) ∷ w ++ (if is_number_word w then printed_words true ws else line_feed ∷ printed_words false ws)
