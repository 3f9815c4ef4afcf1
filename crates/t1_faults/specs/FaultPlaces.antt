-- Each fault that is found: the entry in which it stands, and what it is a fault of.
use Rattle.std.specs.Prelude.{◌≡◌, ◌≤◌, ◌<◌, ◌⊎◌, ◌==◌, ◌+◌, ℕ, not, slice_get, length, option_map, Option, None, Some, Err, List, [], ◌∷◌}
use Rattle.std.specs.List.{AllByRecursion, after_first, prefix_len}
use Rattle.t1_frac.specs.Ascii.{open_brace}
use Rattle.t1_frac.specs.Words.{is_blank}
use Rattle.t1_frac.specs.declared.fault.Code.TheVariants.{F22}
use Rattle.t1_frac.specs.declared.fault.Fault.{Fault}
use Rattle.t1_frac.specs.declared.fault.Place.{Place}
use Rattle.t1_frac.specs.declared.fault.Place.TheVariants as places
use Rattle.t1_parts.specs.Entries.{has_brace}
use Rattle.t1_parts.specs.SourceParts.{SourceParts}
use Rattle.t1_parts.specs.declared.item.Item.{Item}
use Rattle.t1_code.specs.Words.{command_of_word}
use Rattle.t1_code.specs.declared.command.Command.{Command}
use Rattle.t1_run.specs.Run.{own}
use Rattle.t1_font.specs.Assembly.{file_check}
use Rattle.t1_font.specs.ToRun.{font_to_run, glyph_to_run}
use Rattle.t1_chain.specs.Failing.{LeadsTo}
use Rattle.t1_chain.specs.GlyphFailures.{GlyphFailure}
use Rattle.t1_faults.specs.declared.found.FoundFault.{FoundFault}
use Rattle.t1_faults.specs.declared.placed.PlacedWord.{PlacedWord}
use Rattle.t1_faults.specs.Composites.{OwnRuns}
use Rattle.t1_faults.specs.Entries.{Entry, placed_words}
use Rattle.t1_faults.specs.Failing.{failures_in}
use Rattle.t1_faults.specs.Judging.{join_fault}
use Rattle.t1_faults.specs.Met.{chain_of, last_entered}

-- profile, places: one of the entries is this
abbrev pub HasEntry : Entry → List Entry → Type 0
HasEntry e [] = ⊥
HasEntry e (x ∷ xs) = (x ≡ e) ⊎ HasEntry e xs

-- profile, places: the number of the line on which the body of an entry ends, by the first brace outside comments after the one
-- that opens it
abbrev pub last_line : Entry → ℕ
last_line e = e.number + prefix_len (λ l. not (has_brace l)) (after_first (λ c. c == open_brace) e.line ∷ e.later)

-- profile, faults: a fault has the place of an entry, and its line is one of those from the entry's first to the body's last
abbrev pub StandsIn : Entry → FoundFault → Type 0
StandsIn e fault = (fault.place ≡ e.place) × (e.number ≤ fault.line) × (fault.line ≤ last_line e)

-- profile, places: the line and the column of a word; where there is none, those of the entry as a whole
abbrev pub told_place : Entry → Option PlacedWord → ℕ × ℕ
told_place e None = (e.number, prefix_len is_blank e.line + 1)
told_place e (Some w) = (w.line, w.column)

-- profile, faults: a fault tells this word, at its line and column; where there is none, the entry as a whole
abbrev pub Tells : Entry → Option PlacedWord → FoundFault → Type 0
Tells e word fault = (fault.word ≡ option_map (λ w. w.word) word) × ((fault.line, fault.column) ≡ told_place e word)

-- ---- what a fault is of

-- profile, faults: a fault of a word of the entry that is no number and no command, told at that word
abbrev pub IsOfWord : Entry → FoundFault → Type 0
IsOfWord e fault = (k : ℕ) × (w : PlacedWord) × (slice_get (placed_words e) k ≡ Some w) × (command_of_word w.word ≡ Err fault.code) × Tells e (Some w) fault

-- profile, faults: F22, of an entry with too many words
abbrev pub IsOfLength : Entry → FoundFault → Type 0
IsOfLength e fault = (fault.code ≡ F22) × (65535 < length (placed_words e)) × Tells e None fault

-- profile, faults: whose body the run of a glyph is in, by the Subr that it entered last
abbrev pub place_in_run : List ℕ → Option ℕ → Place
place_in_run g None = places.Glyph g
place_in_run g (Some n) = places.Subr n

-- Type 1 Font Format, Chapter 6: the calls of a glyph's run lead from its own body to the word at which it fails
abbrev pub LeadsThere : List Item → GlyphFailure → Type 0
LeadsThere items run =
    (body : List Command) × (glyph_to_run items run.glyph ≡ Some body) × LeadsTo (font_to_run items) (length body) run.failure.calls run.failure.word

-- profile, faults: the run of a glyph fails by the code of a fault, in the body of this entry, at the word of it that the fault tells
abbrev pub FailsThere : List Item → Entry → FoundFault → GlyphFailure → Type 0
FailsThere items e fault run =
    (failures_in items run.glyph ≡ Some run.failure) × (run.failure.code ≡ fault.code)
    × (place_in_run run.glyph (last_entered run.failure.calls) ≡ e.place) × Tells e (slice_get (placed_words e) run.failure.word) fault × LeadsThere items run

-- profile, faults: a fault that a run met there; so did the run of each of its chains, through the Subrs of the chain
abbrev pub IsOfRuns : List Item → Entry → FoundFault → Type 0
IsOfRuns items e fault =
    ((run : GlyphFailure) × FailsThere items e fault run)
    × AllByRecursion (λ chain. (run : GlyphFailure) × (chain_of run ≡ chain) × FailsThere items e fault run) fault.chains

-- profile, faults: a fault of the outline of the glyph whose entry this is
abbrev pub IsOfJoin : OwnRuns → Entry → FoundFault → Type 0
IsOfJoin run e fault = (join_fault run e.place ≡ Some fault.code) × Tells e None fault

-- profile, faults: the fault of the file of a source, at the front
abbrev pub IsOfFile : SourceParts → FoundFault → Type 0
IsOfFile s fault =
    ((f : Fault) × (file_check s ≡ Err f) × (fault.code ≡ f.code) × (fault.place ≡ f.place)) × (fault.line ≡ 1) × (fault.word ≡ None)

-- profile, faults: a fault of an entry
abbrev pub IsOfEntry : SourceParts → Entry → FoundFault → Type 0
IsOfEntry s e fault =
    StandsIn e fault × (IsOfWord e fault ⊎ (IsOfLength e fault ⊎ (IsOfRuns s.items e fault ⊎ IsOfJoin (own (font_to_run s.items)) e fault)))

-- profile, faults: a fault is that of the file, or of one of these entries, in which it stands
abbrev pub StandsThere : SourceParts → List Entry → FoundFault → Type 0
StandsThere s es fault = IsOfFile s fault ⊎ ((e : Entry) × HasEntry e es × IsOfEntry s e fault)
