-- Every fault of a source, each where it stands.
use Rattle.std.specs.Prelude.{ℕ, zero, suc, Bool, true, false, ◌+◌, ◌-◌, ◌&&◌, if◌then◌else◌, Option, None, Some, Result, Ok, Err, List, [], ◌∷◌, ◌++◌, length, take, flat_map, option_map}
use Rattle.std.specs.Option.{option_to_list}
use Rattle.t1_frac.specs.Outcome.{◌>>=◌}
use Rattle.t1_frac.specs.declared.fault.Code.{Code}
use Rattle.t1_frac.specs.declared.fault.Fault.{Fault}
use Rattle.t1_frac.specs.declared.fault.Place.{Place}
use Rattle.t1_frac.specs.declared.fault.Place.TheVariants as places
use Rattle.t1_text.specs.Lines.{lines}
use Rattle.t1_parts.specs.Parts.{ThreeParts, parts_of}
use Rattle.t1_parts.specs.Reading.{reads}
use Rattle.t1_parts.specs.SourceParts.{SourceParts}
use Rattle.t1_run.specs.declared.outline.Composite.{Composite}
use Rattle.t1_run.specs.Run.{Drawing, own}
use Rattle.t1_font.specs.Assembly.{file_check}
use Rattle.t1_font.specs.Bodies.{bodies_check}
use Rattle.t1_font.specs.Glyphs.{glyph_names}
use Rattle.t1_font.specs.MeasuredGlyphs.{glyph_metrics_at}
use Rattle.t1_font.specs.SourceChecks.{source_check}
use Rattle.t1_font.specs.ToRun.{font_to_run}
use Rattle.t1_faults.specs.Composites.{OwnRuns, with_composites}
use Rattle.t1_faults.specs.Entries.{Entry, entries_from, placed_words}
use Rattle.t1_faults.specs.Failing.{failures_in}
use Rattle.t1_faults.specs.Found.{at_entry, body_faults, refused_code, met_faults}
use Rattle.t1_faults.specs.Met.{failed_runs, faults_at, met_in, own_fault}
use Rattle.t1_chain.specs.GlyphFailures.{GlyphFailure}
use Rattle.t1_faults.specs.Reading.{at_front, reading_fault}
use Rattle.t1_faults.specs.declared.found.FoundFault.{FoundFault}
use Rattle.t1_faults.specs.declared.run_fault.RunFault.{RunFault}

-- profile, faults: the first fault of a run, where there is a run and it has one
abbrev pub first_fault_of_run : Option (Result Drawing Code) → Option Code
first_fault_of_run None = None
first_fault_of_run (Some run) = refused_code run

-- profile, faults: these faults, or else others where there are none
abbrev pub or_else : List FoundFault → List FoundFault → List FoundFault
or_else [] others = others
or_else (fault ∷ faults) others = fault ∷ faults

-- profile, faults: the faults that runs met in an entry, by those in the own bodies of glyphs and those at the words of Subrs
abbrev pub run_faults : (List ℕ → Option RunFault) → (ℕ → ℕ → List RunFault) → Entry → List FoundFault
run_faults in_glyph in_subr e = met_faults e (met_in in_glyph in_subr e.place (length (placed_words e)))

-- profile, faults: an entry's own faults: those of its body's words, or else those of runs
abbrev pub entry_faults : (List ℕ → Option RunFault) → (ℕ → ℕ → List RunFault) → Entry → List FoundFault
entry_faults in_glyph in_subr e = or_else (body_faults e) (run_faults in_glyph in_subr e)

-- profile, faults: F23 of a source whose bodies have no fault, at the front of the source
abbrev pub file_faults : Result (Unit {0}) Fault → Result (Unit {0}) Fault → List FoundFault
file_faults (Ok sound) (Ok fits) = []
file_faults (Ok sound) (Err fault) = at_front fault.code fault.place ∷ []
file_faults (Err first) check = []

-- profile, faults: whether both parts are sound, where there are parts
abbrev pub sound_parts : (List ℕ → Bool) → Option Composite → Bool
sound_parts part None = true
sound_parts part (Some c) = part c.base && part c.accent

-- profile, faults: whether a run has no fault, and the parts that it found are sound
abbrev pub sound_run : (List ℕ → Bool) → Option (Result Drawing Code) → Bool
sound_run part None = true
sound_run part (Some (Err code)) = false
sound_run part (Some (Ok d)) = sound_parts part d.composite

-- profile, faults: whether a glyph and all the parts that it stands on, which may nest so deep, have own runs without a fault
abbrev pub sound_within : OwnRuns → ℕ → List ℕ → Bool
sound_within run zero g = sound_run (λ part. true) (run g)
sound_within run (suc depth) g = sound_run (sound_within run depth) (run g)

-- profile, faults: the fault of a glyph's outline, where it stands on no glyph whose own run has a fault: F46, F40 or F39
abbrev pub join_fault : OwnRuns → Place → Option Code
join_fault run (places.Glyph g) = if sound_within run 4 g then refused_code (glyph_metrics_at run g) else None
join_fault run place = None

-- profile, faults: the same, at the composite
abbrev pub join_faults : OwnRuns → Entry → List FoundFault
join_faults run e = option_to_list (option_map (at_entry e) (join_fault run e.place))

-- profile, faults: every fault of a source by its entries and the runs of its glyphs, of which these fail: the entries' own faults,
-- F23, and those of joins
abbrev pub faults_by : List GlyphFailure → OwnRuns → SourceParts → List Entry → List FoundFault
faults_by failed run s entries =
    flat_map (entry_faults (own_fault failed) (faults_at failed)) entries
    ++ (file_faults (bodies_check s.items) (file_check s) ++ flat_map (join_faults run) entries)

-- profile, places: the entries of a source in its lines, of which these are the parts; none where the lines have no parts
abbrev pub entries_in : Result ThreeParts Fault → SourceParts → List Entry
entries_in (Ok parts) s = entries_from (length s.clear + 1) (take (length parts.private - 1) parts.private) s.items
entries_in (Err fault) s = []

-- profile, faults: every fault of a source that has these entries, without the composites on the glyphs that it names
abbrev pub faults_alone : SourceParts → List Entry → List FoundFault
faults_alone s entries = faults_by (failed_runs (failures_in s.items) entries) (own (font_to_run s.items)) s entries

-- profile, faults: every fault of a source that has these entries
abbrev pub faults_among : SourceParts → List Entry → List FoundFault
faults_among s entries = with_composites (own (font_to_run s.items)) (glyph_names s.items) (faults_alone s entries)

-- profile, faults: every fault of a source that was read of these lines
abbrev pub faults_of : List (List ℕ) → SourceParts → List FoundFault
faults_of ls s = faults_among s (entries_in (parts_of ls) s)

-- profile, faults: every fault of a source that was read of these lines, or the one fault of reading them
abbrev pub faults_read : List (List ℕ) → Result SourceParts Fault → List FoundFault
faults_read ls (Ok s) = faults_of ls s
faults_read ls (Err fault) = reading_fault ls fault ∷ []

-- profile, faults: every fault of some bytes as a source, each where it stands
abbrev pub source_faults : List ℕ → List FoundFault
source_faults bytes = faults_read (lines bytes) (reads bytes)

-- profile, faults: what `check` says of some bytes: nothing, or the first fault of reading them or of the source
abbrev pub checked : List ℕ → Result (Unit {0}) Fault
checked bytes = reads bytes >>= source_check
