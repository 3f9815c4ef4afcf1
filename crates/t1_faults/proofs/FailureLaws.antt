-- A run fails exactly where it has a fault.
use Rattle.std.proofs.Common.{◌≡◌, ◌∙◌, ℕ, Bool, false, cond, List, [], ◌∷◌, Option, None, Some, Result, Ok, Err, is_some, refl, sym, ap}
use Rattle.std.specs.Prelude.{option_map}
use Rattle.std.specs.List.{list_any}
use Rattle.std.specs.Option.{option_and_then}
use Rattle.std.specs.Result.{result_err}
use Rattle.std.proofs.Math.Bool.{and-false}
use Rattle.t1_frac.specs.declared.fault.Code.{Code}
use Rattle.t1_frac.specs.declared.fault.Place.TheVariants as places
use Rattle.t1_parts.specs.declared.item.Item.{Item}
use Rattle.t1_parts.specs.declared.item.Item.TheVariants.{Plain, Section, Subr, Glyph}
use Rattle.t1_code.specs.declared.command.Command.{Command}
use Rattle.t1_run.specs.Run.{FontBodies, body_stop, outcome_of, own, own_of}
use Rattle.t1_font.specs.Bodies.{bodies_check, words_check}
use Rattle.t1_font.specs.ToRun.{font_to_run}
use Rattle.t1_font.proofs.Measuring.{first-ok, next-ok, same-function}
use Rattle.t1_chain.specs.Failing.{Failure, failure_in}
use Rattle.t1_chain.proofs.FailingLaws.{failures_told}
use Rattle.t1_faults.specs.Failing.{glyph_failure, failures_in, is_faulty_subr, is_some_and, missing_subr, told_failure, told_by}
use Rattle.t1_faults.specs.Found.{refused_code}
use Rattle.t1_faults.specs.Composites.{OwnRuns}
use Rattle.t1_faults.specs.Judging.{first_fault_of_run}
use Rattle.t1_faults.proofs.SoundLaws.{words_there}

code_as : {X : Type 0} (r : Result X Code) → refused_code r ≡ result_err r
code_as (Ok x) = refl
code_as (Err code) = refl

-- the first fault of a run is the code of its failure
pub run_fails : (m : FontBodies) (g : List ℕ) → first_fault_of_run (own m g) ≡ option_map (λ (f : Failure). f.code) (glyph_failure m g)
unfolding own
run_fails m g = by (m.glyphs g) where
  by : (body : Option (List Command)) → first_fault_of_run (own_of m body) ≡ option_map (λ (f : Failure). f.code) (option_and_then (failure_in m) body)
  by None = refl
  by (Some body) = code_as (outcome_of (body_stop m body)) ∙ sym (failures_told m body)

none_mapped : {X Y : Type 0} (f : X → Y) (o : Option X) → is_some (option_map f o) ≡ false → o ≡ None
none_mapped f None h = refl
none_mapped f (Some x) h = absurd (cc)

-- where a run has no fault, it has no failure
pub no_failure : (run : OwnRuns) (m : FontBodies) (g : List ℕ) → run ≡ own m → is_some (first_fault_of_run (run g)) ≡ false → ◌≡◌ {A = Option Failure} None (glyph_failure m g)
no_failure run m g same h =
    sym (none_mapped (λ (f : Failure). f.code) (glyph_failure m g) (ap is_some (sym (run_fails m g)) ∙ ap (λ (r : OwnRuns). is_some (first_fault_of_run (r g))) (sym same) ∙ h))

-- ---- all of it is told, where the words of no Subr have a fault

passed : (faulty : ℕ → Bool) → ((n : ℕ) → faulty n ≡ false) → (o : Option ℕ) → is_some_and faulty o ≡ false
passed faulty none None = refl
passed faulty none (Some n) = none n

all_told : (faulty : ℕ → Bool) → ((n : ℕ) → faulty n ≡ false) → (o : Option Failure) → option_and_then (told_failure faulty) o ≡ o
all_told faulty none None = refl
all_told faulty none (Some f) = ap (λ b. cond b None (Some f)) (passed faulty none (missing_subr f))

-- where all bodies compile, no Subr's words have a fault
none_faulty : (n : ℕ) (items : List Item) → bodies_check items ≡ Ok tt → list_any (is_faulty_subr n) items ≡ false
none_faulty n [] e = refl
none_faulty n (Plain l ∷ items) e = none_faulty n items e
none_faulty n (Section before count after ∷ items) e = none_faulty n items e
none_faulty n (Subr number words closing ∷ items) e =
    let read = words_there (places.Subr number) words (first-ok (words_check (places.Subr number) words) (bodies_check items) tt e) in
    rw (read.1, and-false) (none_faulty n items (next-ok (words_check (places.Subr number) words) (bodies_check items) tt e))
none_faulty n (Glyph g words closing ∷ items) e = none_faulty n items (next-ok (words_check (places.Glyph g) words) (bodies_check items) tt e)

-- then the first fault of a run is the code of what is told of it
pub runs_told : (items : List Item) → bodies_check items ≡ Ok tt → (g : List ℕ) → first_fault_of_run (own (font_to_run items) g) ≡ option_map (λ (f : Failure). f.code) (failures_in items g)
runs_told items checked g =
    run_fails (font_to_run items) g
    ∙ ap (option_map (λ (f : Failure). f.code)) (sym (all_told (λ n. list_any (is_faulty_subr n) items) (λ n. none_faulty n items checked) (glyph_failure (font_to_run items) g)))

-- failures by what is kept are those of the source
pub failures_same : (faulty : ℕ → Bool) (m : FontBodies) (items : List Item) → m ≡ font_to_run items → ((n : ℕ) → faulty n ≡ list_any (is_faulty_subr n) items)
    → told_by faulty m ≡ failures_in items
failures_same faulty m items same h =
    ap (told_by faulty) same ∙ ap (λ test. told_by test (font_to_run items)) (same-function faulty (λ n. list_any (is_faulty_subr n) items) h)
