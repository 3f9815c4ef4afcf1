-- The faults of a body, each at its word.
use Rattle.std.specs.Prelude.{◌+◌, nat_lt, if◌then◌else◌, Option, None, Some, Result, Ok, Err, List, [], ◌∷◌, ◌++◌, length, map, filter_map, option_map, slice_get}
use Rattle.std.specs.List.{prefix_len}
use Rattle.t1_frac.specs.Words.{is_blank}
use Rattle.t1_frac.specs.declared.fault.Code.{Code}
use Rattle.t1_frac.specs.declared.fault.Code.TheVariants.{F22}
use Rattle.t1_frac.specs.declared.fault.Place.{Place}
use Rattle.t1_code.specs.Words.{command_of_word}
use Rattle.t1_chain.specs.declared.failure.Detail.TheVariants.{Nothing}
use Rattle.t1_faults.specs.Entries.{Entry, placed_words}
use Rattle.t1_faults.specs.declared.placed.PlacedWord.{PlacedWord}
use Rattle.t1_faults.specs.declared.found.FoundFault.{FoundFault}
use Rattle.t1_faults.specs.declared.run_fault.RunFault.{RunFault}

-- profile, faults: the code of what is refused
abbrev pub refused_code : {X : Type 0} → Result X Code → Option Code
refused_code (Ok x) = None
refused_code (Err code) = Some code

-- profile, faults: a fault of an entry as a whole, at the first byte of its first line that is no blank
abbrev pub at_entry : Entry → Code → FoundFault
at_entry e code = record {
  code = code;
  place = e.place;
  line = e.number;
  column = prefix_len is_blank e.line + 1;
  word = None;
  detail = Nothing;
  chains = [];
  composites = [];
}

-- profile, faults: a fault of a word of this entry, at the word
abbrev pub at_word : Place → PlacedWord → Code → FoundFault
at_word place w code = record {
  code = code;
  place = place;
  line = w.line;
  column = w.column;
  word = Some w.word;
  detail = Nothing;
  chains = [];
  composites = [];
}

-- profile, faults: the fault of a word, where it is no number and no command
abbrev pub word_fault : Place → PlacedWord → Option FoundFault
word_fault place w = option_map (at_word place w) (refused_code (command_of_word w.word))

-- profile, faults: every fault of some words, in their order
abbrev pub word_faults : Place → List PlacedWord → List FoundFault
word_faults place ws = filter_map (word_fault place) ws

-- profile, faults: F22 where these are too many words of one body
abbrev pub length_faults : Entry → List PlacedWord → List FoundFault
length_faults e ws = if nat_lt 65535 (length ws) then at_entry e F22 ∷ [] else []

-- profile, faults: every fault of an entry's body: F22 at the entry, and F20 and F21 at each word that has one
abbrev pub body_faults : Entry → List FoundFault
body_faults e = length_faults e (placed_words e) ++ word_faults e.place (placed_words e)

-- ---- faults of runs

-- profile, faults: a fault with what a run's fault says beside its code, and its chains
abbrev pub with_chains : RunFault → FoundFault → FoundFault
with_chains f found = record found { detail = f.detail; chains = f.chains }

-- profile, faults: a fault that runs met in an entry, at this word, or at the entry as a whole
abbrev pub at_place : Entry → Option PlacedWord → RunFault → FoundFault
at_place e (Some w) f = with_chains f (at_word e.place w f.code)
at_place e None f = with_chains f (at_entry e f.code)

-- profile, faults: the same in an entry of these words: at its word, or at the entry as a whole where no word is at fault
abbrev pub in_entry : Entry → List PlacedWord → RunFault → FoundFault
in_entry e ws f = at_place e (slice_get ws f.word) f

-- profile, faults: the faults that runs met in an entry
abbrev pub met_faults : Entry → List RunFault → List FoundFault
met_faults e fs = map (in_entry e (placed_words e)) fs
