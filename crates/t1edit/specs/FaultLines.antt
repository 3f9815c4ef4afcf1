-- The faults of a file as lines, which people and editors read.
use Rattle.std.specs.Prelude.{ℕ, ◌-◌, ◌==◌, if◌then◌else◌, Option, None, Some, List, [], ◌∷◌, ◌++◌, codes, decimal, flat_map, length, map, nat_lt, take}
use Rattle.std.specs.List.{slice_index_or}
use Rattle.t1_frac.specs.Ascii.{space, tab}
use Rattle.t1_frac.specs.declared.fault.Place.{Place}
use Rattle.t1_frac.specs.declared.fault.Place.TheVariants.{Nowhere}
use Rattle.t1_commands.specs.AnswerTexts.{code_name, place_text}
use Rattle.t1_command_line.specs.Topics.{meaning}
use Rattle.t1_command_line.specs.declared.topic.TopicGroup.{TopicGroup}
use Rattle.t1_faults.specs.declared.call_chains.CallChain.{CallChain}
use Rattle.t1_faults.specs.declared.found.FoundFault.{FoundFault}
use Rattle.t1_fault_texts.specs.Hints.{hint}
use Rattle.t1_fault_texts.specs.Names.{listed}
use Rattle.t1_fault_texts.specs.Shown.{shown}

-- profile, faults: where a fault stands, in the form that editors read
abbrev pub position_text : List ℕ → FoundFault → List ℕ
position_text path fault = path ++ (codes ":" ++ (decimal fault.line ++ (codes ":" ++ (decimal fault.column ++ codes ": "))))

-- profile, faults: the code of a fault, its place, and what the code means
abbrev pub title_text : List TopicGroup → FoundFault → List ℕ
title_text sections fault = code_name fault.code ++ (place_text fault.place ++ (codes ": " ++ meaning sections (code_name fault.code)))

-- profile, faults: the word of a fault after a colon, where it has one
abbrev pub after_colon : Option (List ℕ) → List ℕ
after_colon None = []
after_colon (Some word) = codes ": " ++ shown word

-- profile, faults: a hint in brackets, where there is one
abbrev pub in_brackets : List ℕ → List ℕ
in_brackets [] = []
in_brackets (c ∷ rest) = codes " (" ++ (c ∷ rest ++ codes ")")

-- profile, faults: the line that says what is wrong, and where
abbrev pub fault_heading : List ℕ → List TopicGroup → FoundFault → List ℕ
fault_heading path sections fault =
    position_text path fault ++ (title_text sections fault ++ (after_colon fault.word ++ (in_brackets (hint fault) ++ codes "\n")))

-- profile, faults: what stands under a byte in front of the word: a blank as wide
abbrev pub under : ℕ → ℕ
under c = if c == tab then tab else space

-- profile, faults: a mark under each byte of a word, or one where there is no word
abbrev pub marks : Option (List ℕ) → List ℕ
marks None = codes "^"
marks (Some word) = flat_map (λ c. codes "^") word

-- profile, faults: a line of the source, and under it the marks from this column on
abbrev pub marked_line : List ℕ → ℕ → Option (List ℕ) → List ℕ
marked_line line column word = line ++ (codes "\n" ++ (map under (take (column - 1) line) ++ (marks word ++ codes "\n")))

-- profile, faults: the same of a line of up to 1,000 bytes, and nothing of a longer one
abbrev pub short_line : List ℕ → ℕ → Option (List ℕ) → List ℕ
short_line line column word = if nat_lt 1000 (length line) then [] else marked_line line column word

-- profile, faults: the line of a fault with marks under its word, but for one of a source as a whole, which stands nowhere
abbrev pub excerpt : Place → List (List ℕ) → FoundFault → List ℕ
excerpt Nowhere ls fault = []
excerpt place ls fault = short_line (slice_index_or ls (fault.line - 1) []) fault.column fault.word

-- profile, faults: a call of a Subr
abbrev pub subr_call_text : ℕ → List ℕ
subr_call_text n = codes ", subr " ++ decimal n

-- profile, faults: the line of a glyph that met a fault in a Subr, and of the calls on the way
abbrev pub chain_line : CallChain → List ℕ
chain_line chain = codes "    in glyph " ++ (chain.glyph ++ (flat_map subr_call_text chain.subrs ++ codes "\n"))

-- profile, faults: what stands before composites
unfoldable pub composites_head : List ℕ
composites_head = codes "    composites on it: "

-- profile, faults: the line of composites that are listed so, where there are some
abbrev pub listed_line : List ℕ → List ℕ
listed_line [] = []
listed_line (c ∷ rest) = composites_head ++ (c ∷ rest ++ codes "\n")

-- profile, faults: the line of the composites that are told with a fault, where there are some
abbrev pub composites_line : List (List ℕ) → List ℕ
composites_line names = listed_line (listed (codes ", ") names)

-- profile, faults: all lines of a fault
abbrev pub fault_lines : List ℕ → List TopicGroup → List (List ℕ) → FoundFault → List ℕ
fault_lines path sections ls fault =
    fault_heading path sections fault ++ (excerpt fault.place ls fault ++ (flat_map chain_line fault.chains ++ composites_line fault.composites))

-- profile, faults: all lines of the faults of a file that has these lines
abbrev pub faults_lines : List ℕ → List TopicGroup → List (List ℕ) → List FoundFault → List ℕ
faults_lines path sections ls faults = flat_map (fault_lines path sections ls) faults
