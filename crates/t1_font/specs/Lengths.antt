-- A source's private text, as it is put together, and how long it is.
use Rattle.std.specs.Prelude.{◌≡◌, ◌^◌, ◌-◌, ℕ, List, Result, Ok, length, min, ◌++◌, Err}
use Rattle.t1_frac.specs.declared.fault.Fault.{Fault}
use Rattle.t1_frac.specs.declared.fault.Code.{Code}
use Rattle.t1_frac.specs.Outcome.{◌>>=◌}
use Rattle.t1_code.specs.Cipher.{encrypted_words}
use Rattle.t1_parts.specs.declared.item.Item.{Item}
use Rattle.t1_parts.specs.LenIV.{lead}
use Rattle.t1_parts.specs.Operator.{operator}
use Rattle.t1_parts.specs.SourceParts.{SourceParts}
use Rattle.t1_font.specs.Assembly.{item_line, private_text}

-- word: no body of the source has a fault, and its private text is so long, or longer than 2^64 - 1
abbrev pub IsPrivateLen : SourceParts → ℕ → Type 0
IsPrivateLen s len = (text : List ℕ) × (private_text (lead s) (operator s) s.items ≡ Ok text) × (len ≡ min (length text) (2 ^ 64 - 1))

-- word: how long the encrypted charstring of a body is, or the fault of its words
abbrev pub charstring_length : ℕ → List (List ℕ) → Result ℕ Code
charstring_length lead words = encrypted_words lead words >>= λ code. Ok (length code)

-- word: how long the line of an item is, or 2^64 - 1 where it is longer; or the fault of its body
abbrev pub line_length : ℕ → List ℕ → Item → Result ℕ Fault
line_length lead operator item = item_line lead operator item >>= λ line. Ok (min (length line) (2 ^ 64 - 1))

-- word: how long the private text of the items is, or 2^64 - 1 where it is longer; or the first fault of their bodies
abbrev pub private_length : ℕ → List ℕ → List Item → Result ℕ Fault
private_length lead operator items = private_text lead operator items >>= λ text. Ok (min (length text) (2 ^ 64 - 1))

-- word: a text stands in front of what a definition gives
abbrev pub put_after : List ℕ → Result (List ℕ) Fault → Result (List ℕ) Fault
put_after front (Ok rest) = Ok (front ++ rest)
put_after front (Err fault) = Err fault
