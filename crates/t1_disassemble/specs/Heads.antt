-- Heads of sections, whose tokens may stand on several lines.
use Rattle.std.specs.Prelude.{ℕ, ◌+◌, not, is_some, Bool, true, false, ◌==◌, if◌then◌else◌, Option, None, Some, option_and_then, option_map, List, [], ◌∷◌, ◌++◌, take, drop, length, codes, decimal}
use Rattle.std.specs.Str.{bytes_eq}
use Rattle.t1_frac.specs.Ascii.{percent, space}
use Rattle.t1_frac.specs.Words.{is_blank}
use Rattle.t1_text.specs.Lines.{is_line_end, trimmed}
use Rattle.t1_text.specs.Names.{decimal_of, up_to}
use Rattle.t1_text.specs.Tokens.{places_from}
use Rattle.t1_disassemble.specs.Front.{front_line, past_line}
use Rattle.t1_disassemble.specs.Opening.{first_opening}
use Rattle.t1_disassemble.specs.Settings.{heads_section}

-- profile, layouts: some bytes from the first that is neither a blank nor of a comment, which goes to the end of its line
abbrev pub past_gap_in : Bool → List ℕ → List ℕ
past_gap_in comment [] = []
past_gap_in comment (c ∷ rest) =
    if comment then past_gap_in (not (is_line_end c)) rest
    else (if c == percent then past_gap_in true rest else (if is_blank c then past_gap_in false rest else c ∷ rest))

-- profile, layouts: the same, of bytes that don't begin in a comment
abbrev pub past_gap : List ℕ → List ℕ
past_gap bytes = past_gap_in false bytes

-- profile, layouts: the first of some tokens, and the bytes after it
abbrev pub token_and_rest : List ℕ → List (ℕ × List ℕ) → Option (List ℕ × List ℕ)
token_and_rest bytes [] = None
token_and_rest bytes (t ∷ ts) = Some (t.1, drop (t.0 + length t.1) bytes)

-- profile, layouts: the first token of some bytes, over line ends and comments, and the bytes after it
abbrev pub next_over : List ℕ → Option (List ℕ × List ℕ)
next_over bytes = token_and_rest (past_gap bytes) (places_from 0 (past_gap bytes))

-- profile, layouts: the bytes after a word, where it is the next token
abbrev pub past_word : List ℕ → List ℕ × List ℕ → Option (List ℕ)
past_word word found = if bytes_eq found.0 word then Some found.1 else None

-- profile, layouts: a count below 1,000,000,000 and a word that are the next tokens, and the bytes after them
abbrev pub count_and_rest : List ℕ → List ℕ × List ℕ → Option (ℕ × List ℕ)
count_and_rest word found =
    option_and_then (λ count. option_map (λ rest. (count, rest)) (option_and_then (past_word word) (next_over found.1))) (up_to 999999999 (decimal_of found.0))

-- profile, layouts: the same, behind a section's name
abbrev pub behind_name : List ℕ → List ℕ → Option (ℕ × List ℕ)
behind_name word bytes = option_and_then (count_and_rest word) (next_over bytes)

-- Type 1 Font Format, 2.4 (Subrs and CharStrings): the head of a section: where its name ends, its count, its word, and the bytes after it
pub record Head : Type 0 where
  pub end : ℕ
  pub word : List ℕ
  pub count : ℕ
  pub rest : List ℕ

-- Type 1 Font Format, 2.4 (Subrs and CharStrings): the word of the section of this name
abbrev pub section_word : List ℕ → Option (List ℕ)
section_word name = if bytes_eq name (codes "/Subrs") then Some (codes "array") else (if bytes_eq name (codes "/CharStrings") then Some (codes "dict") else None)

-- profile, layouts: the head whose name ends at a place of some bytes
abbrev pub head_with : List ℕ → ℕ → List ℕ → Option Head
head_with bytes end word = option_map (λ found. record { end = end; word = word; count = found.0; rest = found.1 }) (behind_name word (drop end bytes))

-- profile, layouts: the head that a token begins
abbrev pub head_at : List ℕ → ℕ × List ℕ → Option Head
head_at bytes t = option_and_then (head_with bytes (t.0 + length t.1)) (section_word t.1)

-- profile: the first of two, where it is something
abbrev pub or_later : Option Head → Option Head → Option Head
or_later None other = other
or_later (Some head) other = Some head

-- profile, layouts: the first head that one of these tokens begins
abbrev pub head_among : List ℕ → List (ℕ × List ℕ) → Option Head
head_among bytes [] = None
head_among bytes (t ∷ ts) = or_later (head_at bytes t) (head_among bytes ts)

-- profile, layouts: the head that begins on the first line, where that isn't a section line by itself
abbrev pub head_over : List ℕ → Option Head
head_over bytes = if heads_section (front_line bytes) then None else head_among bytes (places_from 0 (front_line bytes))

-- profile, layouts: a space and a text without the blanks at its ends, where there is anything else
abbrev pub after_space : List ℕ → List ℕ
after_space [] = []
after_space (c ∷ text) = space ∷ c ∷ text

-- profile, layouts: whether an entry opens on the line at the front
abbrev pub opens_entry : List ℕ → List ℕ → Bool
opens_entry operator bytes = is_some (first_opening operator (places_from 0 (front_line bytes)))

-- Type 1 Font Format, 2.4 (Subrs and CharStrings): the section line of the source, with what stands behind the head on its line, where no entry opens there
abbrev pub head_text : List ℕ → List ℕ → Head → List ℕ
head_text operator bytes h =
    trimmed (take h.end bytes) ++ space ∷ (decimal h.count ++ space ∷ (h.word ++ (if opens_entry operator h.rest then [] else after_space (trimmed (front_line h.rest)))))

-- profile, layouts: the bytes after it
abbrev pub past_head : List ℕ → Head → List ℕ
past_head operator h = if opens_entry operator h.rest then h.rest else past_line h.rest
