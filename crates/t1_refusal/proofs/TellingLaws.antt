-- What is told of the first fault of a source.
use Rattle.std.proofs.Common.{◌≡◌, ◌∙◌, ℕ, Bool, true, false, List, [], ◌∷◌, ◌++◌, append_assoc, append-nil, Option, Some, None, option_map, Result, Ok, Err, ap, refl, subst, sym}
use Rattle.std.specs.Prelude.{OnOk, if◌then◌else◌}
use Rattle.t1_frac.specs.Ascii.{line_feed}
use Rattle.t1_frac.specs.declared.fault.Fault.{Fault}
use Rattle.t1_frac.specs.declared.fault.Place.{Place}
use Rattle.t1_frac.specs.declared.fault.Place.TheVariants as places
use Rattle.t1_frac.specs.declared.fault.Refusal.{Refusal}
use Rattle.t1_frac.specs.declared.fault.Refusal.TheVariants as refusals
use Rattle.t1_frac.specs.Outcome.{Refuses, ◌>>=◌}
use Rattle.t1_parts.specs.declared.item.Item.{Item}
use Rattle.t1_parts.specs.SourceParts.{SourceParts}
use Rattle.t1_commands.specs.AnswerTexts.{fault_text}
use Rattle.t1_run.specs.Run.{FontBodies}
use Rattle.t1_font.specs.Bodies.{bodies, bodies_check}
use Rattle.t1_font.specs.KeptBodies.{SameBodies}
use Rattle.t1_font.specs.MeasuredGlyphs.{MeasuredFont}
use Rattle.t1_font.specs.SourceChecks.{measured_source, source_check}
use Rattle.t1_refusal.specs.declared.met.FailedRun.{FailedRun}
use Rattle.t1_refusal.specs.Met.{met_within}
use Rattle.t1_refusal.specs.Bodies.{seen_of, HasFaultyBody}
use Rattle.t1_refusal.specs.Telling.{refused_fault_lines, fault_of, glyph_lines, is_of_word, told_lines, met_lines, place_lines, refusal_text, run_lines, word_lines}
use Rattle.t1_refusal.proofs.MetLaws.{met_same}

pub fault_of_passed : (s : SourceParts) (font : MeasuredFont) → measured_source s ≡ Ok font → ◌≡◌ {A = Option Fault} None (fault_of (source_check s))
fault_of_passed s font e = sym (ap (λ (r : Result MeasuredFont Fault). fault_of (r >>= λ metrics. Ok (tt {0}))) e)

pub fault_of_refused : (s : SourceParts) (fault : Fault) → measured_source s ≡ Err fault → ◌≡◌ {A = Option Fault} (Some fault) (fault_of (source_check s))
fault_of_refused s fault e = sym (ap (λ (r : Result MeasuredFont Fault). fault_of (r >>= λ metrics. Ok (tt {0}))) e)

-- ---- the run that fails

-- nothing is added
pub added_none : (text more : List ℕ) → [] ≡ more → text ≡ text ++ more
added_none text more e = sym (append-nil text) ∙ ap (λ t. text ++ t) e

run-refused : (items : List Item) (glyph : List ℕ) → HasFaultyBody items → [] ≡ glyph_lines items glyph
unfolding glyph_lines
run-refused items glyph refused = sym (ap (λ r. run_lines items r (met_within (bodies items) 4 glyph)) refused.1)

place-refused : (items : List Item) (place : Place) → HasFaultyBody items → [] ≡ place_lines items place
place-refused items (places.Glyph glyph) refused = run-refused items glyph refused
place-refused items places.Nowhere refused = refl
place-refused items (places.Line n) refused = refl
place-refused items (places.Subr n) refused = refl

pub faulty_body : (items : List Item) (refusal : Refusal) (fault : Fault) → refusal ≡ refusals.Fault fault → Refuses refusal (bodies_check items) → HasFaultyBody items
faulty_body items refusal fault is h = (fault, subst (λ r. Refuses r (bodies_check items)) is h)

module _ (items : List Item) (glyph : List ℕ) (m : FontBodies) (found : Option FailedRun) (sound : bodies_check items ≡ Ok (tt {0})) (same : SameBodies m (bodies items))
    (is : option_map seen_of found ≡ met_within m 4 glyph) where
  run-lines : run_lines items (Ok (tt {0})) (option_map seen_of found) ≡ glyph_lines items glyph
  unfolding glyph_lines
  run-lines =
      ap (run_lines items (Ok (tt {0}))) (is ∙ met_same m (bodies items) 4 glyph same)
      ∙ sym (ap (λ r. run_lines items r (met_within (bodies items) 4 glyph)) sound)

  pub run_met : (met : FailedRun) → found ≡ Some met → met_lines items (seen_of met) ≡ glyph_lines items glyph
  run_met met e = sym (ap (λ o. run_lines items (Ok (tt {0})) (option_map seen_of o)) e) ∙ run-lines

  pub run_not_met : found ≡ None → [] ≡ glyph_lines items glyph
  run_not_met e = sym (ap (λ o. run_lines items (Ok (tt {0})) (option_map seen_of o)) e) ∙ run-lines

-- ---- the lines of a fault

module _ (items : List Item) (fault : Fault) (old mid : List ℕ) (first : mid ≡ old ++ (fault_text fault ++ line_feed ∷ [])) where
  lines-are : (rest : List ℕ) → rest ≡ (if is_of_word fault.code then word_lines items fault.place else place_lines items fault.place) → mid ++ rest ≡ old ++ refused_fault_lines items fault
  unfolding refused_fault_lines
  lines-are rest e =
      ap (λ t. t ++ rest) first ∙ append_assoc old (fault_text fault ++ line_feed ∷ []) rest
      ∙ ap (λ t. old ++ t) (append_assoc (fault_text fault) (line_feed ∷ []) rest ∙ ap (λ t. fault_text fault ++ line_feed ∷ t) e)

  pub word_told : {T E : Type 0} (r : Result T E) (new : List ℕ) → is_of_word fault.code ≡ true → OnOk r (new ≡ mid ++ word_lines items fault.place) → OnOk r (new ≡ old ++ refused_fault_lines items fault)
  word_told r new e h =
      subst (λ t. OnOk r (new ≡ t))
      (lines-are (word_lines items fault.place) (sym (ap (λ (b : Bool). if b then word_lines items fault.place else place_lines items fault.place) e))) h

  pub place_told : {T E : Type 0} (r : Result T E) (new : List ℕ) → is_of_word fault.code ≡ false → OnOk r (new ≡ mid ++ place_lines items fault.place) → OnOk r (new ≡ old ++ refused_fault_lines items fault)
  place_told r new e h =
      subst (λ t. OnOk r (new ≡ t))
      (lines-are (place_lines items fault.place) (sym (ap (λ (b : Bool). if b then word_lines items fault.place else place_lines items fault.place) e))) h

  pub none_told : is_of_word fault.code ≡ false → HasFaultyBody items → mid ≡ old ++ refused_fault_lines items fault
  none_told e refused =
      sym (append-nil mid) ∙ ap (λ t. mid ++ t) (place-refused items fault.place refused)
      ∙ lines-are (place_lines items fault.place) (sym (ap (λ (b : Bool). if b then word_lines items fault.place else place_lines items fault.place) e))

-- ---- the lines of a source

pub nothing_told : (s : SourceParts) (f : Option Fault) → f ≡ fault_of (source_check s) → f ≡ None → [] ≡ refusal_text s
unfolding refusal_text
nothing_told s f e none = sym (ap (told_lines s.items) (sym e ∙ none))

pub fault_told : (s : SourceParts) (f : Option Fault) (fault : Fault) → f ≡ fault_of (source_check s) → f ≡ Some fault → refused_fault_lines s.items fault ≡ refusal_text s
unfolding refusal_text
fault_told s f fault e some = sym (ap (told_lines s.items) (sym e ∙ some))
