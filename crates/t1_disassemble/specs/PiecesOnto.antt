-- The private text of a font, read into lines after others.
use Rattle.std.specs.Prelude.{ℕ, ◌+◌, nat_lt, Bool, true, false, ◌==◌, if◌then◌else◌, Option, None, Some, List, ◌++◌, take, drop, length, Result, Ok, Err}
use Rattle.t1_frac.specs.Outcome.{◌>>=◌}
use Rattle.t1_text.specs.Tokens.{places_from}
use Rattle.t1_parts.specs.Parts.{is_closefile}
use Rattle.t1_disassemble.specs.declared.fault.FontCode.TheVariants.{D4, D5}
use Rattle.t1_disassemble.specs.declared.fault.FontFault.{FontFault}
use Rattle.t1_disassemble.specs.declared.fault.FontPlace.TheVariants.{Nowhere, Entry}
use Rattle.t1_disassemble.specs.Cuts.{pieces}
use Rattle.t1_disassemble.specs.Front.{front_line}
use Rattle.t1_disassemble.specs.Opening.{Opening, first_opening}
use Rattle.t1_disassemble.specs.Outcome.{font_fault_at, font_reported_at}
use Rattle.t1_disassemble.specs.PrivateText.{PieceRead, line_text, front_text, head_line, source_line, past_source_line, piece_left, entry_pieces_text}
use Rattle.t1_disassemble.specs.Words.{words_of_encrypted}
use Rattle.t1_disassemble.specs.WordsOnto.{words_onto}

-- word: a text with an entry at its end, which waits for its closing text
abbrev pub entry_left : List ℕ → List ℕ → PieceRead
entry_left text rest = record { text = text; waits = true; rest = rest; is_last = false }

-- word: an entry after a text
abbrev pub entry_onto : ℕ → List ℕ → Opening → List ℕ → Result PieceRead FontFault
entry_onto lead text o bytes =
    if nat_lt (length bytes) o.count then Err (font_fault_at (Entry o.name) D5)
    else (font_reported_at (Entry o.name) (words_onto (text ++ head_line o.name) false (words_of_encrypted lead (take o.count bytes))) >>= λ all.
    Ok (entry_left all (drop o.count bytes)))

-- word: a line after a text
abbrev pub line_onto : List ℕ → List ℕ → Bool → List ℕ → PieceRead
line_onto operator text waits bytes =
    record { text = text ++ line_text waits (source_line operator bytes); waits = false; rest = past_source_line operator bytes; is_last = is_closefile (source_line operator bytes) }

-- word: an entry, or a line, after a text
abbrev pub piece_onto : List ℕ → ℕ → List ℕ → Bool → List ℕ → Option Opening → Result PieceRead FontFault
piece_onto operator lead text waits bytes None = Ok (line_onto operator text waits bytes)
piece_onto operator lead text waits bytes (Some o) = entry_onto lead (text ++ front_text waits (take o.at bytes)) o (drop (o.end + 1) bytes)

-- word: the piece at the front after a text
unfoldable pub read_onto : List ℕ → ℕ → List ℕ → Bool → List ℕ → Result PieceRead FontFault
read_onto operator lead text waits bytes =
    if length bytes == 0 then Err (font_fault_at Nowhere D4)
    else piece_onto operator lead text waits bytes (first_opening operator (places_from 0 (front_line bytes)))

-- word: lines that are read, after a text
abbrev pub text_onto : List ℕ → Result (List ℕ × List ℕ) FontFault → Result (List ℕ × List ℕ) FontFault
text_onto text (Ok found) = Ok (text ++ found.0, found.1)
text_onto text (Err fault) = Err fault

-- word: the lines of the private text after a text, at the end of which an entry may wait for its closing text
unfoldable pub private_onto : List ℕ → ℕ → List ℕ → Bool → List ℕ → Result (List ℕ × List ℕ) FontFault
private_onto operator lead text waits bytes = text_onto text (entry_pieces_text operator lead (pieces (piece_left operator) bytes) waits)
