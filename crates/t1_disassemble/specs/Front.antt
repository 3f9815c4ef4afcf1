-- The line at the front of some bytes, and the part of a font that ends with its eexec line.
use Rattle.std.specs.Prelude.{◌==◌, ◌||◌, ℕ, ◌+◌, nat_lt, Bool, if◌then◌else◌, length, List, take, drop, find, codes, Option, None, Some, option_map}
use Rattle.std.specs.List.{position_or_len, prefix_len}
use Rattle.t1_frac.specs.Ascii.{tab, line_feed, carriage_return, space}
use Rattle.t1_text.specs.Lines.{is_line_end, after_end}
use Rattle.t1_parts.specs.Operator.{text_place}
use Rattle.t1_parts.specs.Parts.{is_eexec}
use Rattle.t1_disassemble.specs.Cuts.{pieces}

-- profile: how many bytes stand before the first line end
abbrev pub line_len : List ℕ → ℕ
line_len bytes = position_or_len is_line_end bytes

-- profile: the first line
abbrev pub front_line : List ℕ → List ℕ
front_line bytes = take (line_len bytes) bytes

-- profile: the bytes after the first line and its end, of which CR LF is one
abbrev pub past_line : List ℕ → List ℕ
past_line bytes = after_end (drop (line_len bytes) bytes)

-- profile: the bytes from each line on
abbrev pub line_starts : List ℕ → List (List ℕ)
line_starts bytes = pieces past_line bytes

-- Type 1 Font Format, 2.4 (eexec): what stands after the first line that, trimmed, ends in `currentfile eexec`
unfoldable pub after_eexec_line : List ℕ → Option (List ℕ)
after_eexec_line bytes = option_map past_line (find (λ from. is_eexec (front_line from)) (line_starts bytes))

-- Type 1 Font Format, 2.4 (eexec): what stands after the first `currentfile eexec` with a space behind it
unfoldable pub after_eexec_words : List ℕ → Option (List ℕ)
after_eexec_words bytes =
    if nat_lt (text_place (codes "currentfile eexec ") bytes) (length bytes) then Some (drop (text_place (codes "currentfile eexec ") bytes + 17) bytes) else None

-- profile: the first of two, where there is one
abbrev pub first_of : Option (List ℕ) → Option (List ℕ) → Option (List ℕ)
first_of None other = other
first_of (Some found) other = Some found

-- Type 1 Font Format, 2.4 (eexec): what stands after the clear text: after its eexec line, or, where no line ends so, on it
abbrev pub after_eexec : List ℕ → Option (List ℕ)
after_eexec bytes = first_of (after_eexec_line bytes) (after_eexec_words bytes)

-- Type 1 Font Format, 7.2 (eexec): a space, a tab, CR and LF may stand between eexec and the encrypted bytes
abbrev pub is_space : ℕ → Bool
is_space c = c == space || c == tab || c == carriage_return || c == line_feed

-- Type 1 Font Format, 7.2 (eexec): the encrypted bytes begin with the first that is none of these
abbrev pub past_spaces : List ℕ → List ℕ
past_spaces bytes = drop (prefix_len is_space bytes) bytes
