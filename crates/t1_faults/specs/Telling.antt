-- What `check` reports is among the faults that are found, or stands on one of them.
use Rattle.std.specs.Prelude.{◌≡◌, ℕ, zero, suc, true, ◌⊎◌, None, Some, Result, Ok, Err, IfSome, List, [], ◌∷◌}
use Rattle.std.specs.List.{AllByRecursion, list_any}
use Rattle.std.specs.Str.{bytes_eq}
use Rattle.t1_frac.specs.declared.fault.Code.{Code}
use Rattle.t1_frac.specs.declared.fault.Fault.{Fault}
use Rattle.t1_frac.specs.declared.fault.Place.{Place}
use Rattle.t1_frac.specs.declared.fault.Place.TheVariants as places
use Rattle.t1_parts.specs.SourceParts.{SourceParts}
use Rattle.t1_run.specs.declared.outline.Composite.{Composite}
use Rattle.t1_run.specs.Run.{Drawing, FontBodies, own}
use Rattle.t1_font.specs.Glyphs.{glyph_names}
use Rattle.t1_font.specs.MeasuredGlyphs.{glyph_metrics_at}
use Rattle.t1_font.specs.ToRun.{font_to_run}
use Rattle.t1_chain.specs.Failing.{Failure}
use Rattle.t1_faults.specs.Composites.{OwnRuns, names_glyph}
use Rattle.t1_faults.specs.Failing.{glyph_failure, missing_subr}
use Rattle.t1_faults.specs.Placed.{HasAt}
use Rattle.t1_faults.specs.declared.call_chains.CallChain.{CallChain}
use Rattle.t1_faults.specs.declared.found.FoundFault.{FoundFault}

-- profile, faults: one of the faults has this code and this place
abbrev pub IsTold : Code → Place → List FoundFault → Type 0
IsTold code place [] = ⊥
IsTold code place (fault ∷ faults) = ((fault.code ≡ code) × (fault.place ≡ place)) ⊎ IsTold code place faults

-- Type 1 Font Format, Chapter 6 (seac): a glyph stands on this one: it is it, or its base or its accent does, which nest so deep
abbrev pub StandsOn : OwnRuns → ℕ → List ℕ → List ℕ → Type 0
StandsOn run zero g p = g ≡ p
StandsOn run (suc depth) g p =
    (g ≡ p)
    ⊎ ((d : Drawing) × (c : Composite) × (run g ≡ Some (Ok d)) × (d.composite ≡ Some c) × (StandsOn run depth c.base p ⊎ StandsOn run depth c.accent p))

-- profile, faults: one of these chains is of this glyph
abbrev pub HasChain : List ℕ → List CallChain → Type 0
HasChain g [] = ⊥
HasChain g (chain ∷ chains) = (chain.glyph ≡ g) ⊎ HasChain g chains

-- profile, faults: one of the faults has this code, and the run of this glyph met it in a Subr
abbrev pub IsMet : Code → List ℕ → List FoundFault → Type 0
IsMet code g [] = ⊥
IsMet code g (fault ∷ faults) = ((fault.code ≡ code) × HasChain g fault.chains) ⊎ IsMet code g faults

-- profile, faults: a fault is told; or it is a glyph's, and that glyph is or stands on one of which a fault is told, or whose run met
-- one in a Subr
abbrev pub IsAccountedFor : OwnRuns → List FoundFault → Fault → Type 0
IsAccountedFor run found fault =
    IsTold fault.code fault.place found
    ⊎ ((g : List ℕ) × (p : List ℕ) × (code : Code) × (fault.place ≡ places.Glyph g) × StandsOn run 4 g p × (IsTold code (places.Glyph p) found ⊎ IsMet code p found))

-- profile, faults: the runs of a source that was read; no runs where it wasn't
abbrev pub runs_read : Result SourceParts Fault → OwnRuns
runs_read (Ok s) = own (font_to_run s.items)
runs_read (Err fault) = λ g. None

-- profile, places: these lines have the word of a fault at its line and column, where it has a word
abbrev pub TellsWord : List (List ℕ) → FoundFault → Type 0
TellsWord ls fault = IfSome fault.word (HasAt ls fault.line fault.column)

-- profile, faults: each composite that is told with a fault stands on a glyph that the fault names
abbrev pub TellsComposites : OwnRuns → FoundFault → Type 0
TellsComposites run fault = AllByRecursion (λ g. (p : List ℕ) × StandsOn run 4 g p × (names_glyph p fault ≡ true)) fault.composites

-- profile, faults: one of the faults names this glyph, or has it among its composites
abbrev pub IsNamed : List ℕ → List FoundFault → Type 0
IsNamed g [] = ⊥
IsNamed g (fault ∷ faults) = (names_glyph g fault ≡ true) ⊎ ((list_any (bytes_eq g) fault.composites ≡ true) ⊎ IsNamed g faults)

-- profile, faults: the run of a glyph's own body fails, since it calls a Subr of this number and has none
abbrev pub MissesSubr : FontBodies → List ℕ → ℕ → Type 0
MissesSubr m g n = (f : Failure) × (glyph_failure m g ≡ Some f) × (missing_subr f ≡ Some n)

-- profile, faults: a glyph is or stands on one whose run misses a Subr, and a fault is told in the entry of that Subr
abbrev pub MissesToldSubr : FontBodies → List FoundFault → List ℕ → Type 0
MissesToldSubr m found g =
    (p : List ℕ) × (n : ℕ) × (code : Code) × StandsOn (own m) 4 g p × MissesSubr m p n × IsTold code (places.Subr n) found

-- profile, faults: each glyph of a source whose run or outline fails is named by one of the faults, or is among the composites of
-- one; or it is or stands on a glyph that calls a Subr which has no body to run, and of that Subr's words a fault is told
abbrev pub NamesFailing : SourceParts → List FoundFault → Type 0
NamesFailing s found =
    (g : List ℕ) (code : Code) → list_any (bytes_eq g) (glyph_names s.items) ≡ true → glyph_metrics_at (own (font_to_run s.items)) g ≡ Err code
    → IsNamed g found ⊎ MissesToldSubr (font_to_run s.items) found g
