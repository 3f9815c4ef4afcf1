-- The private text of a font, read into the lines of a source.
use Rattle.std.specs.Prelude.{ℕ, ◌+◌, ◌&&◌, ◌||◌, is_none, is_some, nat_lt, Bool, true, false, ◌==◌, if◌then◌else◌, Option, None, Some, List, [], ◌∷◌, ◌++◌, take, drop, length, codes, Result, Ok, Err}
use Rattle.t1_frac.specs.Ascii.{line_feed}
use Rattle.t1_frac.specs.Outcome.{◌>>=◌}
use Rattle.t1_text.specs.Lines.{trimmed}
use Rattle.t1_text.specs.Tokens.{places_from}
use Rattle.t1_parts.specs.Parts.{holds, is_closefile}
use Rattle.t1_parts.specs.Printing.{last_line}
use Rattle.t1_disassemble.specs.declared.fault.FontCode.TheVariants.{D4, D5}
use Rattle.t1_disassemble.specs.declared.fault.FontFault.{FontFault}
use Rattle.t1_disassemble.specs.declared.fault.FontPlace.TheVariants.{Nowhere, Entry}
use Rattle.t1_disassemble.specs.Cuts.{pieces}
use Rattle.t1_disassemble.specs.Front.{front_line, past_line}
use Rattle.t1_disassemble.specs.Heads.{Head, head_over, head_text, past_head}
use Rattle.t1_disassemble.specs.Layouts.{are_one, one_line}
use Rattle.t1_disassemble.specs.Opening.{Opening, first_opening}
use Rattle.t1_disassemble.specs.Outcome.{font_fault_at, font_reported_at}
use Rattle.t1_disassemble.specs.Settings.{heads_section, before_section, said_on}
use Rattle.t1_disassemble.specs.Words.{words_of_encrypted, printed_words}

-- profile: what stands between two entries, or lines: the closing text of an entry that waits for it, or a line as it stands
abbrev pub plain_text : Bool → List ℕ → List ℕ
plain_text waits line = (if waits then last_line (trimmed line) else line) ++ line_feed ∷ []

-- profile, layouts: whether a line says something of the reading operator or of lenIV
abbrev pub says_settings : List ℕ → Bool
says_settings l = holds (codes "string currentfile") l || is_some (said_on l)

-- profile, layouts: how many bytes of a section line are cut off, as a line of their own or as a closing text: those before the section's
-- name, where they are a closing text, or say something of the reading operator or of lenIV
abbrev pub cut_len : Bool → List ℕ → Option ℕ
cut_len waits l = if heads_section l && (waits || says_settings (before_section l)) then Some (length (before_section l)) else None

-- profile, layouts: a line, or two
abbrev pub cut_text : Bool → List ℕ → Option ℕ → List ℕ
cut_text waits l None = plain_text waits l
cut_text waits l (Some n) = plain_text waits (take n l) ++ plain_text false (drop n l)

-- profile, layouts: a line with what stands before a section's name on it cut off, where that has to be
abbrev pub line_text : Bool → List ℕ → List ℕ
line_text waits l = cut_text waits l (cut_len waits l)

-- profile: what stands on a line before an entry: the same, but blanks alone are no line
abbrev pub front_text : Bool → List ℕ → List ℕ
front_text waits front = if waits then line_text true front else (if length (trimmed front) == 0 then [] else line_text false front)

-- profile: the first line of an entry
abbrev pub head_line : List ℕ → List ℕ
head_line name = name ++ codes " {" ++ line_feed ∷ []

-- profile: a piece of the private text: its lines in the source, whether an entry waits for its closing text after them, the bytes
-- after the piece, and whether it closes the encrypted part
pub record PieceRead : Type 0 where
  pub text : List ℕ
  pub waits : Bool
  pub rest : List ℕ
  pub is_last : Bool

-- Type 1 Font Format, 2.4 (Subrs and CharStrings): an entry with its charstring's words, and what stands before it
abbrev pub entry_piece : ℕ → List ℕ → Opening → List ℕ → Result PieceRead FontFault
entry_piece lead front o bytes =
    if nat_lt (length bytes) o.count then Err (font_fault_at (Entry o.name) D5)
    else (font_reported_at (Entry o.name) (words_of_encrypted lead (take o.count bytes)) >>= λ words.
    Ok (record { text = front ++ (head_line o.name ++ printed_words false words); waits = true; rest = drop o.count bytes; is_last = false }))

-- profile, layouts: whether the first line and the next one are one line of the source, on which no entry opens
abbrev pub goes_on : List ℕ → List ℕ → Bool
goes_on operator bytes =
    are_one (front_line bytes) (front_line (past_line bytes)) && is_none (first_opening operator (places_from 0 (front_line (past_line bytes))))

-- profile, layouts: the first line, or the section line of a head that begins on it
abbrev pub headed_line : List ℕ → List ℕ → Option Head → List ℕ
headed_line operator bytes None = front_line bytes
headed_line operator bytes (Some h) = head_text operator bytes h

-- profile, layouts: the same, with the next one where both close the encrypted part
abbrev pub source_line : List ℕ → List ℕ → List ℕ
source_line operator bytes = if goes_on operator bytes then one_line (front_line bytes) (front_line (past_line bytes)) else headed_line operator bytes (head_over bytes)

-- profile, layouts: the bytes after a line, or after a head
abbrev pub past_headed : List ℕ → List ℕ → Option Head → List ℕ
past_headed operator bytes None = past_line bytes
past_headed operator bytes (Some h) = past_head operator h

-- profile, layouts: the bytes after it
abbrev pub past_source_line : List ℕ → List ℕ → List ℕ
past_source_line operator bytes = if goes_on operator bytes then past_line (past_line bytes) else past_headed operator bytes (head_over bytes)

-- Type 1 Font Format, 2.4: a whole line, or the rest of one, which may close the encrypted part
abbrev pub line_piece : List ℕ → Bool → List ℕ → PieceRead
line_piece operator waits bytes =
    record { text = line_text waits (source_line operator bytes); waits = false; rest = past_source_line operator bytes; is_last = is_closefile (source_line operator bytes) }

-- profile: the entry that opens on the first line, or that line where none does
abbrev pub opened_piece : List ℕ → ℕ → Bool → List ℕ → Option Opening → Result PieceRead FontFault
opened_piece operator lead waits bytes None = Ok (line_piece operator waits bytes)
opened_piece operator lead waits bytes (Some o) = entry_piece lead (front_text waits (take o.at bytes)) o (drop (o.end + 1) bytes)

-- Type 1 Font Format, 2.4 (Subrs and CharStrings): the piece at the front: a line through the entry that opens on it, or whole
abbrev pub read_piece : List ℕ → ℕ → Bool → List ℕ → Result PieceRead FontFault
read_piece operator lead waits bytes = opened_piece operator lead waits bytes (first_opening operator (places_from 0 (front_line bytes)))

-- profile: what such a piece leaves
abbrev pub opened_left : List ℕ → List ℕ → Option Opening → List ℕ
opened_left operator bytes None = past_source_line operator bytes
opened_left operator bytes (Some o) = drop o.count (drop (o.end + 1) bytes)

-- profile: what the piece at the front leaves
abbrev pub piece_left : List ℕ → List ℕ → List ℕ
piece_left operator bytes = opened_left operator bytes (first_opening operator (places_from 0 (front_line bytes)))

-- profile: the lines of a piece in front of those that come after it, where it isn't the last
abbrev pub before_text : (Bool → Result (List ℕ × List ℕ) FontFault) → PieceRead → Result (List ℕ × List ℕ) FontFault
before_text others piece =
    if piece.is_last then Ok (piece.text, piece.rest) else (others piece.waits >>= λ more. Ok (piece.text ++ more.0, more.1))

-- Type 1 Font Format, 2.4: the lines of the pieces that begin at these places, through the one that closes the encrypted part, and
-- the bytes after it; or the first fault. An entry may wait for its closing text before the first of them
abbrev pub entry_pieces_text : List ℕ → ℕ → List (List ℕ) → Bool → Result (List ℕ × List ℕ) FontFault
entry_pieces_text operator lead [] waits = Err (font_fault_at Nowhere D4)
entry_pieces_text operator lead (from ∷ others) waits = read_piece operator lead waits from >>= before_text (entry_pieces_text operator lead others)

-- Type 1 Font Format, 2.4: the lines of the private text, and the bytes after its last line; or the first fault
unfoldable pub read_private_text : List ℕ → ℕ → List ℕ → Result (List ℕ × List ℕ) FontFault
read_private_text operator lead bytes = entry_pieces_text operator lead (pieces (piece_left operator) bytes) false
