-- What is told of a source that is refused.
use Rattle.std.specs.Prelude.{ℕ, ◌+◌, ◌-◌, Bool, true, false, is_ok, if◌then◌else◌, List, [], ◌∷◌, ◌++◌, length, flat_map, Option, Some, None, option_map, Result, Ok, Err, codes, decimal}
use Rattle.std.specs.List.{slice_get}
use Rattle.t1_frac.specs.Ascii.{line_feed, space}
use Rattle.t1_frac.specs.declared.fault.Code.{Code}
use Rattle.t1_frac.specs.declared.fault.Code.TheVariants.{F20, F21}
use Rattle.t1_frac.specs.declared.fault.Fault.{Fault}
use Rattle.t1_frac.specs.declared.fault.Place.{Place}
use Rattle.t1_frac.specs.declared.fault.Place.TheVariants as places
use Rattle.t1_parts.specs.declared.item.Item.{Item}
use Rattle.t1_parts.specs.SourceParts.{SourceParts}
use Rattle.t1_code.specs.Words.{command_of_word}
use Rattle.t1_commands.specs.AnswerTexts.{fault_text}
use Rattle.t1_chain.specs.declared.failure.Call.{Call}
use Rattle.t1_font.specs.Bodies.{bodies, bodies_check}
use Rattle.t1_font.specs.SourceChecks.{source_check}
use Rattle.t1_refusal.specs.Entries.{glyph_named, words_at_place, subr_of, words_of_found}
use Rattle.t1_refusal.specs.Met.{met_within}
use Rattle.t1_chain.specs.GlyphFailures.{GlyphFailure}

-- ---- the word

-- profile, refusals: whether a word says a number or a command
abbrev pub says : List ℕ → Bool
says word = is_ok (command_of_word word)

-- profile, refusals: the first of these words that says nothing, with its number; the first of them has this number
abbrev pub faulty_from : ℕ → List (List ℕ) → Option (ℕ × List ℕ)
faulty_from number [] = None
faulty_from number (word ∷ words) = if says word then faulty_from (number + 1) words else Some (number, word)

-- profile, refusals: the word at this place of a body, from 0, with its number, from 1
abbrev pub word_in_body : ℕ → List (List ℕ) → Option (ℕ × List ℕ)
word_in_body at words = option_map (λ word. (at + 1, word)) (slice_get words at)

-- profile, refusals: the line of a word: its number in its body, and the word
abbrev pub word_line : Option (ℕ × List ℕ) → List ℕ
word_line None = []
word_line (Some w) = codes "word " ++ (decimal w.0 ++ (space ∷ (w.1 ++ line_feed ∷ [])))

-- profile, refusals: the line of the first word at a place that says nothing
abbrev pub word_lines : List Item → Place → List ℕ
word_lines items place = word_line (faulty_from 1 (words_at_place items place))

-- ---- the way

-- profile, refusals: the last of the calls on the way of a run
abbrev pub last_call : List Call → Option Call
last_call calls = slice_get calls (length calls - 1)

-- profile, refusals: the words of the body that was entered last: of a Subr, or of the glyph itself
abbrev pub entered_words : List Item → List ℕ → Option Call → List (List ℕ)
entered_words items glyph None = words_of_found (glyph_named glyph items)
entered_words items glyph (Some call) = words_of_found (subr_of call.subr items)

-- profile, refusals: the Subr that a call enters
abbrev pub call_text : Call → List ℕ
call_text call = codes ", subr " ++ decimal call.subr

-- profile, refusals: the line of a way: the glyph, and the Subrs that its run had entered
abbrev pub way_line : List ℕ → List Call → List ℕ
way_line glyph calls = codes "in glyph " ++ (glyph ++ (flat_map call_text calls ++ line_feed ∷ []))

-- profile, refusals: the word at which the run of a glyph fails, where a word is at fault, and the way to it
abbrev pub met_lines : List Item → GlyphFailure → List ℕ
met_lines items met =
    word_line (word_in_body met.failure.word (entered_words items met.glyph (last_call met.failure.calls)))
    ++ way_line met.glyph met.failure.calls

-- profile, refusals: the same, where a run fails, of a source whose bodies have no fault
abbrev pub run_lines : List Item → Result (Unit {0}) Fault → Option GlyphFailure → List ℕ
run_lines items (Err fault) met = []
run_lines items (Ok sound) None = []
run_lines items (Ok sound) (Some met) = met_lines items met

-- profile, refusals: the same, of the glyph of this name and the parts that it stands on, which nest four deep
unfoldable pub glyph_lines : List Item → List ℕ → List ℕ
glyph_lines items glyph = run_lines items (bodies_check items) (met_within (bodies items) 4 glyph)

-- ---- the lines of a refusal

-- profile, refusals: the same, of the place of a fault; glyphs alone are run
abbrev pub place_lines : List Item → Place → List ℕ
place_lines items (places.Glyph glyph) = glyph_lines items glyph
place_lines items place = []

-- profile, refusals: F20 and F21 are faults of a word of a body
abbrev pub is_of_word : Code → Bool
is_of_word F20 = true
is_of_word F21 = true
is_of_word code = false

-- profile, refusals: a fault of a source: its code and place, the word that has it, and the way of the run that met it
unfoldable pub refused_fault_lines : List Item → Fault → List ℕ
refused_fault_lines items fault =
    fault_text fault ++ (line_feed ∷ (if is_of_word fault.code then word_lines items fault.place else place_lines items fault.place))

-- profile, refusals: the fault of what is refused
abbrev pub fault_of : {T : Type 0} → Result T Fault → Option Fault
fault_of (Ok sound) = None
fault_of (Err fault) = Some fault

-- profile, refusals: the lines of a fault, where there is one
abbrev pub told_lines : List Item → Option Fault → List ℕ
told_lines items None = []
told_lines items (Some fault) = refused_fault_lines items fault

-- profile, refusals: what is told of a source: the lines of its first fault
unfoldable pub refusal_text : SourceParts → List ℕ
refusal_text s = told_lines s.items (fault_of (source_check s))
