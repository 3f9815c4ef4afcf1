-- The codes that are explained, below their titles.
use Rattle.std.specs.Prelude.{ℕ, List, [], ◌∷◌, map, codes}
use Rattle.t1_command_line.specs.declared.topic.TopicGroup.{TopicGroup}

-- profile: a section without its texts: its title, and the codes of its topics in their order
abbrev pub outline_of : TopicGroup → List ℕ × List (List ℕ)
outline_of section = (section.title.now, map (λ topic. topic.code.now) section.topics.now)

-- profile: the faults of reading a source
abbrev pub reading : List ℕ × List (List ℕ)
reading = (
  codes "Faults of reading a source",
  codes "F1" ∷ codes "F2" ∷ codes "F3" ∷ codes "F4" ∷ codes "F5" ∷ codes "F6" ∷ codes "F7" ∷ codes "F8" ∷ codes "F9" ∷ codes "F10" ∷ codes "F11" ∷ [],
)

-- profile: the faults of reading a kerning file
abbrev pub kerning : List ℕ × List (List ℕ)
kerning = (codes "Faults of reading a kerning file", codes "F12" ∷ codes "F13" ∷ [])

-- profile: the faults of a body, and of the PFB file
abbrev pub body_codes : List ℕ × List (List ℕ)
body_codes = (codes "Faults of a body, and of the PFB file", codes "F20" ∷ codes "F21" ∷ codes "F22" ∷ codes "F23" ∷ [])

-- profile: the faults of running a glyph
abbrev pub run_codes : List ℕ × List (List ℕ)
run_codes = (
  codes "Faults of running a glyph",
  codes "F30" ∷ codes "F31" ∷ codes "F32" ∷ codes "F33" ∷ codes "F34" ∷ codes "F35" ∷ codes "F36" ∷ codes "F37" ∷ codes "F38" ∷ codes "F39" ∷ codes "F40" ∷ codes "F41" ∷ codes "F42" ∷ codes "F43" ∷ codes "F44" ∷ codes "F45" ∷ codes "F46" ∷ codes "F47" ∷ codes "F48" ∷ [],
)

-- profile: the faults of disassembling a font's file
abbrev pub disassembling : List ℕ × List (List ℕ)
disassembling = (
  codes "Faults of disassembling a font's file",
  codes "D1" ∷ codes "D2" ∷ codes "D3" ∷ codes "D4" ∷ codes "D5" ∷ codes "D6" ∷ codes "D7" ∷ codes "D8" ∷ codes "D9" ∷ codes "D10" ∷ codes "D11" ∷ codes "D12" ∷ codes "D13" ∷ codes "D14" ∷ codes "D15" ∷ codes "D16" ∷ codes "D17" ∷ [],
)

-- profile: the notes on a source
abbrev pub note_codes : List ℕ × List (List ℕ)
note_codes = (
  codes "Notes on a source, by t1edit notes",
  codes "byte-order-mark" ∷ codes "first-line" ∷ codes "encoded-name" ∷ codes "count" ∷ codes "plain-entry" ∷ codes "no-notdef" ∷ codes "no-entry" ∷ codes "after-end" ∷ codes "values-left" ∷ codes "wide-coordinate" ∷ codes "negative-width" ∷ codes "open-path" ∷ codes "no-such-glyph" ∷ codes "unused-subr" ∷ codes "font-box" ∷ codes "wide-glyph" ∷ [],
)

-- profile: the rules of a session's commands
abbrev pub rules : List ℕ × List (List ℕ)
rules = (
  codes "Rules of a session's commands",
  codes "E1" ∷ codes "E2" ∷ codes "E3" ∷ codes "E4" ∷ codes "E5" ∷ codes "E6" ∷ codes "E7" ∷ codes "E8" ∷ codes "E9" ∷ codes "E10" ∷ codes "E11" ∷ codes "E12" ∷ [],
)

-- profile: the exit statuses
abbrev pub statuses : List ℕ × List (List ℕ)
statuses = (codes "Exit statuses", codes "0" ∷ codes "1" ∷ codes "2" ∷ codes "3" ∷ codes "4" ∷ [])

-- profile: all of them, in the order in which they are listed
abbrev pub of_program : List (List ℕ × List (List ℕ))
of_program = reading ∷ kerning ∷ body_codes ∷ run_codes ∷ disassembling ∷ note_codes ∷ rules ∷ statuses ∷ []
