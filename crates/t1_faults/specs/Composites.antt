-- The composites that stand on the glyphs that faults name.
use Rattle.std.specs.Prelude.{ℕ, zero, suc, Bool, false, not, ◌&&◌, ◌||◌, Option, None, Some, Result, Ok, Err, List, [], ◌∷◌, ◌++◌}
use Rattle.std.specs.List.{filter, list_any}
use Rattle.std.specs.Str.{bytes_eq}
use Rattle.t1_frac.specs.declared.fault.Code.{Code}
use Rattle.t1_frac.specs.declared.fault.Place.{Place}
use Rattle.t1_frac.specs.declared.fault.Place.TheVariants as places
use Rattle.t1_run.specs.declared.outline.Composite.{Composite}
use Rattle.t1_run.specs.Run.{Drawing}
use Rattle.t1_chain.specs.GlyphFailures.{parts_found}
use Rattle.t1_faults.specs.declared.call_chains.CallChain.{CallChain}
use Rattle.t1_faults.specs.declared.found.FoundFault.{FoundFault}

-- profile, faults: what runs of glyphs' own bodies draw, or their first faults, by the glyphs' names
abbrev pub OwnRuns : Type 0
OwnRuns = List ℕ → Option (Result Drawing Code)

-- ---- the glyphs that a fault names

-- profile, faults: whether a place is the entry of this glyph
abbrev pub is_place_of_glyph : List ℕ → Place → Bool
is_place_of_glyph g (places.Glyph h) = bytes_eq g h
is_place_of_glyph g place = false

-- profile, faults: whether a chain is of this glyph
abbrev pub is_chain_of : List ℕ → CallChain → Bool
is_chain_of g chain = bytes_eq g chain.glyph

-- profile, faults: whether a fault names this glyph: it stands in the glyph's entry, or the glyph's run met it in a Subr
abbrev pub names_glyph : List ℕ → FoundFault → Bool
names_glyph g fault = is_place_of_glyph g fault.place || list_any (is_chain_of g) fault.chains

-- profile, faults: whether a fault is the first that names this glyph: it does, and none of those before it does
abbrev pub is_first_naming : List FoundFault → FoundFault → List ℕ → Bool
is_first_naming before fault g = names_glyph g fault && not (list_any (names_glyph g) before)

-- ---- the glyphs with faults under a composite

-- profile, faults: what is found of both parts, where there are parts
abbrev pub found_of_parts : (List ℕ → List (List ℕ)) → Option Composite → List (List ℕ)
found_of_parts part None = []
found_of_parts part (Some c) = part c.base ++ part c.accent

-- profile, faults: a glyph whose own run has a fault, else what is found of the parts that the run found
abbrev pub faulty_of_run : (List ℕ → List (List ℕ)) → List ℕ → Option (Result Drawing Code) → List (List ℕ)
faulty_of_run part g None = []
faulty_of_run part g (Some (Err code)) = g ∷ []
faulty_of_run part g (Some (Ok d)) = found_of_parts part d.composite

-- profile, faults: the glyphs whose own runs have faults, of a glyph and those on which it stands, where parts may nest so deep
abbrev pub faulty_within : OwnRuns → ℕ → List ℕ → List (List ℕ)
faulty_within run zero g = faulty_of_run (λ part. []) g (run g)
faulty_within run (suc depth) g = faulty_of_run (faulty_within run depth) g (run g)

-- Type 1 Font Format, Chapter 6 (seac): the glyphs whose own runs have faults on which a composite stands; parts may nest four deep
abbrev pub faulty_under : OwnRuns → List ℕ → List (List ℕ)
faulty_under run g = found_of_parts (faulty_within run 3) (parts_found (run g))

-- ---- the composites of each fault

-- profile, faults: those of these glyphs that stand on a glyph with a fault that this fault is the first to name
abbrev pub composites_of : OwnRuns → List (List ℕ) → List FoundFault → FoundFault → List (List ℕ)
composites_of run glyphs before fault = filter (λ g. list_any (is_first_naming before fault) (faulty_under run g)) glyphs

-- profile, faults: a fault with these composites
abbrev pub with_names : List (List ℕ) → FoundFault → FoundFault
with_names names fault = record fault { composites = names }

-- profile, faults: faults that stand after these others, each with its composites, by the faults before it
abbrev pub each_with : (List FoundFault → FoundFault → List (List ℕ)) → List FoundFault → List FoundFault → List FoundFault
each_with composites before [] = []
each_with composites before (fault ∷ faults) = with_names (composites before fault) fault ∷ each_with composites (before ++ fault ∷ []) faults

-- profile, faults: each composite is told with the first fault that names a glyph with a fault on which it stands, once for each such
-- fault, in the order of these glyphs
abbrev pub with_composites : OwnRuns → List (List ℕ) → List FoundFault → List FoundFault
with_composites run glyphs faults = each_with (composites_of run glyphs) [] faults
