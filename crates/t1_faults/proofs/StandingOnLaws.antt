-- The composites that are told with a fault stand on a glyph that it names, and those that stand on one are told.
use Rattle.std.proofs.Common.{◌≡◌, ◌∙◌, ℕ, zero, suc, Bool, true, false, not, cond, ◌&&◌, ◌||◌, ◌⊎◌, List, [], ◌∷◌, ◌++◌, filter, Option, None, Some, Result, Ok, Err, refl, sym, ap, inl, inr}
use Rattle.std.specs.List.{AllByRecursion, list_any}
use Rattle.std.specs.Str.{bytes_eq}
use Rattle.std.proofs.lemmas.List.Folds.{list_any-append}
use Rattle.t1_frac.specs.declared.fault.Code.{Code}
use Rattle.t1_frac.specs.declared.fault.Fault.{Fault}
use Rattle.t1_frac.specs.declared.fault.Place.{Place}
use Rattle.t1_frac.specs.declared.fault.Place.TheVariants as places
use Rattle.t1_text.specs.Lines.{lines}
use Rattle.t1_parts.specs.Parts.{parts_of}
use Rattle.t1_parts.specs.Reading.{reads}
use Rattle.t1_parts.specs.SourceParts.{SourceParts}
use Rattle.t1_run.specs.declared.outline.Composite.{Composite}
use Rattle.t1_run.specs.Run.{Drawing, own}
use Rattle.t1_run.proofs.Asked.{bytes_same, bytes_self}
use Rattle.t1_font.specs.Glyphs.{glyph_names}
use Rattle.t1_font.specs.ToRun.{font_to_run}
use Rattle.t1_faults.specs.declared.call_chains.CallChain.{CallChain}
use Rattle.t1_faults.specs.declared.found.FoundFault.{FoundFault}
use Rattle.t1_faults.specs.Composites.{OwnRuns, composites_of, each_with, faulty_of_run, faulty_under, faulty_within, found_of_parts, is_chain_of, is_place_of_glyph, is_first_naming, names_glyph, with_composites}
use Rattle.t1_chain.specs.GlyphFailures.{parts_found}
use Rattle.t1_faults.specs.Judging.{entries_in, faults_alone, faults_read, source_faults}
use Rattle.t1_faults.specs.Reading.{placed_reading, reading_fault}
use Rattle.t1_faults.specs.Telling.{HasChain, IsMet, IsNamed, IsTold, StandsOn, TellsComposites, runs_read}

or_left : (a b : Bool) → a ≡ true → (a || b) ≡ true
or_left true b h = refl
or_left false b h = absurd (cc)

or_right : (a b : Bool) → b ≡ true → (a || b) ≡ true
or_right true b h = refl
or_right false b h = h

or_either : (a b : Bool) → (a || b) ≡ true → (a ≡ true) ⊎ (b ≡ true)
or_either true b h = inl refl
or_either false b h = inr h

and_left : (a b : Bool) → (a && b) ≡ true → a ≡ true
and_left true b h = refl
and_left false b h = absurd (cc)

any_either : (test : List ℕ → Bool) (xs ys : List (List ℕ)) → list_any test (xs ++ ys) ≡ true → (list_any test xs ≡ true) ⊎ (list_any test ys ≡ true)
any_either test xs ys h = or_either (list_any test xs) (list_any test ys) (sym (list_any-append test xs ys) ∙ h)

any_left : (test : List ℕ → Bool) (xs ys : List (List ℕ)) → list_any test xs ≡ true → list_any test (xs ++ ys) ≡ true
any_left test xs ys h = list_any-append test xs ys ∙ or_left (list_any test xs) (list_any test ys) h

any_right : (test : List ℕ → Bool) (xs ys : List (List ℕ)) → list_any test ys ≡ true → list_any test (xs ++ ys) ≡ true
any_right test xs ys h = list_any-append test xs ys ∙ or_right (list_any test xs) (list_any test ys) h

-- ---- what is under a composite

-- one of the glyphs that it is or stands on passes a test
abbrev Under : (List ℕ → Bool) → OwnRuns → ℕ → List ℕ → Type 0
Under test run depth g = (p : List ℕ) × StandsOn run depth g p × (test p ≡ true)

only_one : (b : Bool) → (b || false) ≡ true → b ≡ true
only_one true h = refl
only_one false h = h

no_parts : (c : Option Composite) (test : List ℕ → Bool) → list_any test (found_of_parts (λ part. []) c) ≡ true → ⊥
no_parts None test h = absurd (cc)
no_parts (Some c) test h = absurd (cc)

under_parts : (test : List ℕ → Bool) (run : OwnRuns) (depth : ℕ) (g : List ℕ) (d : Drawing) (c : Option Composite)
    → ((part : List ℕ) → list_any test (faulty_within run depth part) ≡ true → Under test run depth part) → run g ≡ Some (Ok d) → d.composite ≡ c
    → list_any test (found_of_parts (faulty_within run depth) c) ≡ true → Under test run (suc depth) g
under_parts test run depth g d None below e f k = absurd (cc)
under_parts test run depth g d (Some c) below e f k = elim (any_either test (faulty_within run depth c.base) (faulty_within run depth c.accent) k) [
  | inl base ↦ let w = below c.base base in (w.0, inr (d, c, e, f, inl w.1), w.2)
  | inr accent ↦ let w = below c.accent accent in (w.0, inr (d, c, e, f, inr w.1), w.2)
]

under_within : (test : List ℕ → Bool) (run : OwnRuns) (depth : ℕ) (g : List ℕ) → list_any test (faulty_within run depth g) ≡ true → Under test run depth g
under_within test run zero g h = by (run g) refl h where
  by : (r : Option (Result Drawing Code)) → run g ≡ r → list_any test (faulty_of_run (λ part. []) g r) ≡ true → Under test run zero g
  by None e k = absurd (cc)
  by (Some (Err code)) e k = (g, refl, only_one (test g) k)
  by (Some (Ok d)) e k = absurd (no_parts d.composite test k)
under_within test run (suc depth) g h = by (λ part k. under_within test run depth part k) (run g) refl h where
  by : ((part : List ℕ) → list_any test (faulty_within run depth part) ≡ true → Under test run depth part) → (r : Option (Result Drawing Code)) → run g ≡ r
      → list_any test (faulty_of_run (faulty_within run depth) g r) ≡ true → Under test run (suc depth) g
  by below None e k = absurd (cc)
  by below (Some (Err code)) e k = (g, inl refl, only_one (test g) k)
  by below (Some (Ok d)) e k = under_parts test run depth g d d.composite below e refl k

under_composite : (test : List ℕ → Bool) (run : OwnRuns) (g : List ℕ) → list_any test (faulty_under run g) ≡ true → Under test run 4 g
under_composite test run g h = by (run g) refl h where
  by : (r : Option (Result Drawing Code)) → run g ≡ r → list_any test (found_of_parts (faulty_within run 3) (parts_found r)) ≡ true → Under test run 4 g
  by None e k = absurd (cc)
  by (Some (Err code)) e k = absurd (cc)
  by (Some (Ok d)) e k = under_parts test run 3 g d d.composite (λ part. under_within test run 3 part) e refl k

-- ---- each with the glyphs that it names

-- a composite of a fault stands on a glyph that it names
abbrev IsOn : OwnRuns → FoundFault → List ℕ → Type 0
IsOn run fault g = (p : List ℕ) × StandsOn run 4 g p × (names_glyph p fault ≡ true)

kept_on : (run : OwnRuns) (fault : FoundFault) (test : List ℕ → Bool) → ((g : List ℕ) → test g ≡ true → IsOn run fault g) → (glyphs : List (List ℕ)) → AllByRecursion (IsOn run fault) (filter test glyphs)
kept_on run fault test h [] = tt
kept_on run fault test h (g ∷ glyphs) = by (kept_on run fault test h glyphs) (test g) refl where
  by : AllByRecursion (IsOn run fault) (filter test glyphs) → (b : Bool) → test g ≡ b → AllByRecursion (IsOn run fault) (cond b (g ∷ filter test glyphs) (filter test glyphs))
  by below true e = (h g e, below)
  by below false e = below

each_on : (run : OwnRuns) (glyphs : List (List ℕ)) (before faults : List FoundFault) → AllByRecursion (TellsComposites run) (each_with (composites_of run glyphs) before faults)
each_on run glyphs before [] = tt
each_on run glyphs before (fault ∷ faults) = (
  kept_on run fault (λ g. list_any (is_first_naming before fault) (faulty_under run g)) (λ g h.
      let w = under_composite (is_first_naming before fault) run g h in
      (w.0, w.1, and_left (names_glyph w.0 fault) (not (list_any (names_glyph w.0) before)) w.2)) glyphs,
  each_on run glyphs (before ++ fault ∷ []) faults,
)

-- the composites that are told of a source stand there
pub composites_there : (bytes : List ℕ) → AllByRecursion (TellsComposites (runs_read (reads bytes))) (source_faults bytes)
composites_there bytes = by (reads bytes) where
  one : (run : OwnRuns) (fault : Fault) (place : Place) → AllByRecursion (TellsComposites run) (placed_reading (lines bytes) fault.code place ∷ [])
  one run fault places.Nowhere = (tt, tt)
  one run fault (places.Line n) = (tt, tt)
  one run fault (places.Subr n) = (tt, tt)
  one run fault (places.Glyph g) = (tt, tt)

  by : (r : Result SourceParts Fault) → AllByRecursion (TellsComposites (runs_read r)) (faults_read (lines bytes) r)
  by (Ok s) = each_on (own (font_to_run s.items)) (glyph_names s.items) [] (faults_alone s (entries_in (parts_of (lines bytes)) s))
  by (Err fault) = one (λ g. None) fault fault.place

-- ---- and those that stand on one are told

-- what is told of a glyph names it
told_naming : (code : Code) (p : List ℕ) (faults : List FoundFault) → IsTold code (places.Glyph p) faults → list_any (names_glyph p) faults ≡ true
told_naming code p [] h = absurd h
told_naming code p (fault ∷ faults) (inl h) =
    let here : is_place_of_glyph p fault.place ≡ true = ap (is_place_of_glyph p) h.1 ∙ bytes_self p in
    or_left (names_glyph p fault) (list_any (names_glyph p) faults) (or_left (is_place_of_glyph p fault.place) (list_any (is_chain_of p) fault.chains) here)
told_naming code p (fault ∷ faults) (inr h) = or_right (names_glyph p fault) (list_any (names_glyph p) faults) (told_naming code p faults h)

chain_naming : (p : List ℕ) (chains : List CallChain) → HasChain p chains → list_any (is_chain_of p) chains ≡ true
chain_naming p [] h = absurd h
chain_naming p (chain ∷ chains) (inl h) = or_left (is_chain_of p chain) (list_any (is_chain_of p) chains) (ap (bytes_eq p) h ∙ bytes_self p)
chain_naming p (chain ∷ chains) (inr h) = or_right (is_chain_of p chain) (list_any (is_chain_of p) chains) (chain_naming p chains h)

met_naming : (code : Code) (p : List ℕ) (faults : List FoundFault) → IsMet code p faults → list_any (names_glyph p) faults ≡ true
met_naming code p [] h = absurd h
met_naming code p (fault ∷ faults) (inl h) =
    or_left (names_glyph p fault) (list_any (names_glyph p) faults)
    (or_right (is_place_of_glyph p fault.place) (list_any (is_chain_of p) fault.chains) (chain_naming p fault.chains h.1))
met_naming code p (fault ∷ faults) (inr h) = or_right (names_glyph p fault) (list_any (names_glyph p) faults) (met_naming code p faults h)

pub naming : (code : Code) (p : List ℕ) (faults : List FoundFault) → IsTold code (places.Glyph p) faults ⊎ IsMet code p faults → list_any (names_glyph p) faults ≡ true
naming code p faults (inl h) = told_naming code p faults h
naming code p faults (inr h) = met_naming code p faults h

-- what stands on a glyph with a fault that passes a test
itself_within : (test : List ℕ → Bool) (run : OwnRuns) (depth : ℕ) (p : List ℕ) (code : Code) → run p ≡ Some (Err code) → test p ≡ true → list_any test (faulty_within run depth p) ≡ true
itself_within test run zero p code fails passes = ap (λ r. list_any test (faulty_of_run (λ part. []) p r)) fails ∙ or_left (test p) false passes
itself_within test run (suc depth) p code fails passes = ap (λ r. list_any test (faulty_of_run (faulty_within run depth) p r)) fails ∙ or_left (test p) false passes

parts_within : (test : List ℕ → Bool) (run : OwnRuns) (depth : ℕ) (c : Composite) → (list_any test (faulty_within run depth c.base) ≡ true) ⊎ (list_any test (faulty_within run depth c.accent) ≡ true)
    → list_any test (found_of_parts (faulty_within run depth) (Some c)) ≡ true
parts_within test run depth c (inl base) = any_left test (faulty_within run depth c.base) (faulty_within run depth c.accent) base
parts_within test run depth c (inr accent) = any_right test (faulty_within run depth c.base) (faulty_within run depth c.accent) accent

stands_within : (test : List ℕ → Bool) (run : OwnRuns) (depth : ℕ) (g p : List ℕ) (code : Code) → run p ≡ Some (Err code) → test p ≡ true → StandsOn run depth g p
    → list_any test (faulty_within run depth g) ≡ true
stands_within test run zero g p code fails passes on = ap (λ x. list_any test (faulty_within run zero x)) on ∙ itself_within test run zero p code fails passes
stands_within test run (suc depth) g p code fails passes (inl same) =
    ap (λ x. list_any test (faulty_within run (suc depth) x)) same ∙ itself_within test run (suc depth) p code fails passes
stands_within test run (suc depth) g p code fails passes (inr w) =
    ap (λ r. list_any test (faulty_of_run (faulty_within run depth) g r)) w.2
    ∙ ap (λ c. list_any test (found_of_parts (faulty_within run depth) c)) w.3
    ∙ parts_within test run depth w.1 (elim w.4 [
      | inl base ↦ inl (stands_within test run depth w.1.base p code fails passes base)
      | inr accent ↦ inr (stands_within test run depth w.1.accent p code fails passes accent)
    ])

still_among : (g : List ℕ) (test : List ℕ → Bool) (glyphs : List (List ℕ)) → test g ≡ true → list_any (bytes_eq g) glyphs ≡ true → list_any (bytes_eq g) (filter test glyphs) ≡ true
still_among g test [] t h = absurd (cc)
still_among g test (name ∷ glyphs) t h = by (λ k. still_among g test glyphs t k) (bytes_eq g name) (test name) refl refl h where
  by : (list_any (bytes_eq g) glyphs ≡ true → list_any (bytes_eq g) (filter test glyphs) ≡ true) → (a b : Bool) → bytes_eq g name ≡ a → test name ≡ b → (a || list_any (bytes_eq g) glyphs) ≡ true
      → list_any (bytes_eq g) (cond b (name ∷ filter test glyphs) (filter test glyphs)) ≡ true
  by below true true e f k = or_left (bytes_eq g name) (list_any (bytes_eq g) (filter test glyphs)) e
  by below true false e f k = let never : true ≡ false = sym t ∙ ap test (bytes_same g name e) ∙ f in absurd (cc)
  by below false true e f k = or_right (bytes_eq g name) (list_any (bytes_eq g) (filter test glyphs)) (below k)
  by below false false e f k = below k

-- a fault that names a glyph, with composites
named_still : (g : List ℕ) (composites : List FoundFault → FoundFault → List (List ℕ)) (before faults : List FoundFault) → list_any (names_glyph g) faults ≡ true
    → IsNamed g (each_with composites before faults)
named_still g composites before [] h = absurd (cc)
named_still g composites before (fault ∷ faults) h = elim (or_either (names_glyph g fault) (list_any (names_glyph g) faults) h) [
  | inl here ↦ inl here
  | inr later ↦ inr (inr (named_still g composites (before ++ fault ∷ []) faults later))
]

none_more : (p : List ℕ) (before : List FoundFault) (fault : FoundFault) → list_any (names_glyph p) before ≡ false → names_glyph p fault ≡ false
    → list_any (names_glyph p) (before ++ fault ∷ []) ≡ false
none_more p before fault none other =
    list_any-append (names_glyph p) before (fault ∷ []) ∙ ap (λ b. b || list_any (names_glyph p) (fault ∷ [])) none ∙ ap (λ b. b || false) other

-- a glyph that stands on one is told with the first fault that names that one
among_first : (run : OwnRuns) (glyphs : List (List ℕ)) (g p : List ℕ) → list_any (bytes_eq g) glyphs ≡ true → ((test : List ℕ → Bool) → test p ≡ true → list_any test (faulty_under run g) ≡ true)
    → (before faults : List FoundFault) → list_any (names_glyph p) before ≡ false → list_any (names_glyph p) faults ≡ true → IsNamed g (each_with (composites_of run glyphs) before faults)
among_first run glyphs g p there under before [] none h = absurd (cc)
among_first run glyphs g p there under before (fault ∷ faults) none h = by (λ e k. among_first run glyphs g p there under (before ++ fault ∷ []) faults e k) (names_glyph p fault) refl h where
  by : (list_any (names_glyph p) (before ++ fault ∷ []) ≡ false → list_any (names_glyph p) faults ≡ true → IsNamed g (each_with (composites_of run glyphs) (before ++ fault ∷ []) faults))
      → (b : Bool) → names_glyph p fault ≡ b → (b || list_any (names_glyph p) faults) ≡ true → IsNamed g (each_with (composites_of run glyphs) before (fault ∷ faults))
  by below true e k =
      let first : is_first_naming before fault p ≡ true = ap (λ b. b && not (list_any (names_glyph p) before)) e ∙ ap not none in
      inr (inl (still_among g (λ x. list_any (is_first_naming before fault) (faulty_under run x)) glyphs (under (is_first_naming before fault) first) there))
  by below false e k = inr (inr (below (none_more p before fault none e) k))

-- a glyph that stands on one with a fault of its own that is named
pub named_on : (run : OwnRuns) (glyphs : List (List ℕ)) (faults : List FoundFault) (g p : List ℕ) (code : Code) → list_any (bytes_eq g) glyphs ≡ true → StandsOn run 4 g p
    → run p ≡ Some (Err code) → list_any (names_glyph p) faults ≡ true → IsNamed g (with_composites run glyphs faults)
named_on run glyphs faults g p code there (inl same) fails h = named_still g (composites_of run glyphs) [] faults (ap (λ x. list_any (names_glyph x) faults) same ∙ h)
named_on run glyphs faults g p code there (inr w) fails h =
    let under : (test : List ℕ → Bool) → test p ≡ true → list_any test (faulty_under run g) ≡ true = λ test passes.
    ap (λ r. list_any test (found_of_parts (faulty_within run 3) (parts_found r))) w.2
    ∙ ap (λ c. list_any test (found_of_parts (faulty_within run 3) c)) w.3
    ∙ parts_within test run 3 w.1 (elim w.4 [
      | inl base ↦ inl (stands_within test run 3 w.1.base p code fails passes base)
      | inr accent ↦ inr (stands_within test run 3 w.1.accent p code fails passes accent)
    ]) in
    among_first run glyphs g p there under [] faults refl h

-- one of which a fault is told
pub named_told : (run : OwnRuns) (glyphs : List (List ℕ)) (faults : List FoundFault) (code : Code) (g : List ℕ) → IsTold code (places.Glyph g) faults → IsNamed g (with_composites run glyphs faults)
named_told run glyphs faults code g h = named_still g (composites_of run glyphs) [] faults (told_naming code g faults h)
