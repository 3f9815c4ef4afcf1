-- Every fault of a source and its pairs in a text, a line each.
use Rattle.std.specs.Prelude.{ℕ, Option, None, Some, List, [], ◌++◌, codes, decimal, drop, flat_map}
use Rattle.t1_frac.specs.declared.fault.Place.{Place}
use Rattle.t1_frac.specs.declared.fault.Place.TheVariants.{Subr}
use Rattle.t1_commands.specs.AnswerTexts.{code_name, place_text}
use Rattle.t1_faults.specs.Judging.{source_faults}
use Rattle.t1_faults.specs.declared.call_chains.CallChain.{CallChain}
use Rattle.t1_faults.specs.declared.found.FoundFault.{FoundFault}
use Rattle.t1_fault_texts.specs.Finding.{pairs_faults}
use Rattle.t1_fault_texts.specs.Hints.{hint}
use Rattle.t1_fault_texts.specs.Names.{listed}
use Rattle.t1_fault_texts.specs.Shown.{shown}

-- profile, rows of faults: a field after a tab, its bytes as they are shown, so that no tab and no line end is in it
abbrev pub field : List ℕ → List ℕ
field bytes = codes "\t" ++ shown bytes

-- profile, rows of faults: a field that is a number
abbrev pub number_field : ℕ → List ℕ
number_field n = codes "\t" ++ decimal n

-- profile, rows of faults: a place, by its kind and its number or name; nothing where it is nowhere
abbrev pub place_words : Place → List ℕ
place_words place = drop 1 (place_text place)

-- profile, rows of faults: the word of a fault; nothing where it has none
abbrev pub word_or_nothing : Option (List ℕ) → List ℕ
word_or_nothing None = []
word_or_nothing (Some word) = word

-- profile, rows of faults: a Subr that a run had entered
abbrev pub entered : ℕ → List ℕ
entered n = place_text (Subr n)

-- profile, rows of faults: a glyph whose run met the fault, and the Subrs that it had entered, in turn
abbrev pub chain_words : CallChain → List ℕ
chain_words chain = codes "glyph " ++ (chain.glyph ++ flat_map entered chain.subrs)

-- profile, rows of faults: such a glyph as a field
abbrev pub chain_field : CallChain → List ℕ
chain_field chain = field (chain_words chain)

-- profile, rows of faults: where a fault stands
abbrev pub position_fields : FoundFault → List ℕ
position_fields fault = number_field fault.line ++ number_field fault.column

-- profile, rows of faults: what it is: its code, its place, its word and what is said beside them
abbrev pub fault_fields : FoundFault → List ℕ
fault_fields fault = field (code_name fault.code) ++ (field (place_words fault.place) ++ (field (word_or_nothing fault.word) ++ field (hint fault)))

-- profile, rows of faults: the composites that are told with a fault, with a space between each two; nothing where there are none
abbrev pub composites_field : FoundFault → List ℕ
composites_field fault = field (listed (codes " ") fault.composites)

-- profile, rows of faults: the line of a fault, which begins with the name of the text that has it
abbrev pub row : List ℕ → FoundFault → List ℕ
row name fault =
    name ++ (position_fields fault ++ (fault_fields fault ++ (composites_field fault ++ (flat_map chain_field fault.chains ++ codes "\n"))))

-- profile, rows of faults: the lines of faults of one text
abbrev pub rows : List ℕ → List FoundFault → List ℕ
rows name faults = flat_map (row name) faults

-- profile, rows of faults: the fault of a source's pairs, where they have one, and then every fault of the source
unfoldable pub fault_rows : List ℕ → List ℕ → List ℕ
fault_rows source kerning = rows (codes "pairs") (pairs_faults kerning) ++ rows (codes "source") (source_faults source)
