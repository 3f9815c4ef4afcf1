-- The faults of a file as objects of JSON.
use Rattle.std.specs.Prelude.{ℕ, Option, None, Some, List, [], ◌∷◌, ◌++◌, codes, drop, flat_map, map}
use Rattle.serde_json.specs.Data.{Data, null, number, unsigned, string, array, object, item, Members, no_members, put}
use Rattle.serde_json.specs.View.{items_of}
use Rattle.serde_json.specs.Written.{compact_text}
use Rattle.t1_frac.specs.declared.fault.Place.{Place}
use Rattle.t1_frac.specs.declared.fault.Place.TheVariants.{Subr, Glyph}
use Rattle.t1_commands.specs.AnswerTexts.{code_name, place_text}
use Rattle.t1_faults.specs.declared.call_chains.CallChain.{CallChain}
use Rattle.t1_faults.specs.declared.found.FoundFault.{FoundFault}
use Rattle.t1_fault_texts.specs.Hints.{hint}
use Rattle.t1_fault_texts.specs.Shown.{shown}

-- profile, faults: bytes as a string, as they are shown
abbrev pub text_data : List ℕ → Data
text_data bytes = string (shown bytes)

-- profile, faults: the same, and null where there are none
abbrev pub text_or_null : List ℕ → Data
text_or_null [] = null
text_or_null (c ∷ rest) = text_data (c ∷ rest)

-- profile, faults: a word, and null where there is none
abbrev pub word_data : Option (List ℕ) → Data
word_data None = null
word_data (Some word) = text_data word

-- profile, faults: a place without the space in front of it, and null where it is nowhere
abbrev pub place_data : Place → Data
place_data place = text_or_null (drop 1 (place_text place))

-- profile, faults: a Subr
abbrev pub subr_data : ℕ → Data
subr_data n = place_data (Subr n)

-- profile, faults: a glyph and the Subrs that it calls in turn
abbrev pub chain_data : CallChain → Data
chain_data chain = array (item (place_data (Glyph chain.glyph)) (items_of (map subr_data chain.subrs)))

-- profile, faults: all such chains
abbrev pub chains_data : List CallChain → Data
chains_data chains = array (items_of (map chain_data chains))

-- profile, faults: names of glyphs
abbrev pub names_data : List (List ℕ) → Data
names_data names = array (items_of (map text_data names))

-- profile, faults: members with where a fault stands
abbrev pub with_position : FoundFault → Members → Members
with_position fault members =
    put (codes "place") (place_data fault.place) (put (codes "column") (number (unsigned fault.column)) (put (codes "line") (number (unsigned fault.line)) members))

-- profile, faults: members with what a fault is
abbrev pub with_fault : FoundFault → Members → Members
with_fault fault members =
    put (codes "composites") (names_data fault.composites)
    (put (codes "chain") (chains_data fault.chains)
    (put (codes "hint") (text_or_null (hint fault)) (put (codes "word") (word_data fault.word) (put (codes "code") (text_data (code_name fault.code)) members))))

-- profile, faults: a fault of a file of this name
unfoldable pub fault_data : List ℕ → FoundFault → Data
fault_data path fault = object (with_fault fault (with_position fault (put (codes "file") (string path) no_members)))

-- profile, faults: a fault as an object, on a line of its own
abbrev pub fault_json : List ℕ → FoundFault → List ℕ
fault_json path fault = compact_text (fault_data path fault) ++ codes "\n"

-- profile, faults: the faults of a file of this name
abbrev pub faults_json : List ℕ → List FoundFault → List ℕ
faults_json path faults = flat_map (fault_json path) faults
