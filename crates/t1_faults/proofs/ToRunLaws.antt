-- What is run of a source, and the runs that are kept of it.
use Rattle.std.proofs.Common.{◌≡◌, ◌∙◌, ℕ, Bool, true, false, ◌||◌, cond, List, [], ◌∷◌, filter, map, Option, None, Some, refl, sym, ap, inl, inr}
use Rattle.std.specs.Prelude.{Result, Ok, Err, IsSome, IfOk, nat_eq}
use Rattle.std.specs.Borrow.{Bor}
use Rattle.std.specs.List.{list_any, All}
use Rattle.std.proofs.lemmas.List.Elements.{All-nil, All-cons}
use Rattle.std.proofs.lemmas.List.Folds.{list_any-append}
use Rattle.std.proofs.Math.Bool.{or-false}
use Rattle.indexmap.specs.IndexSet.{insert_key}
use Rattle.std.specs.Option.{option_or}
use Rattle.std.specs.Str.{bytes_eq}
use Rattle.std.proofs.lemmas.Bool.{cases_Bool}
use Rattle.t1_frac.specs.declared.fault.Code.{Code}
use Rattle.t1_parts.specs.declared.item.Item.{Item}
use Rattle.t1_parts.specs.declared.item.Item.TheVariants.{Plain, Section, Subr, Glyph}
use Rattle.t1_parts.specs.Stretches.{stands_alone}
use Rattle.t1_code.specs.declared.command.Command.{Command}
use Rattle.t1_code.specs.Words.{commands}
use Rattle.t1_run.specs.Run.{Drawing, font, own}
use Rattle.t1_font.specs.Bodies.{subr_among}
use Rattle.t1_font.specs.Glyphs.{glyph_names}
use Rattle.t1_font.specs.Runs.{NamedRun, drawing_in, own_among}
use Rattle.t1_font.specs.ToRun.{commands_or_none, font_to_run, glyph_to_run}
use Rattle.t1_run.proofs.Asked.{bytes_self}
use Rattle.t1_font.proofs.AloneLaws.{same_alone}
use Rattle.t1_font.proofs.Compiling.{none-there}
use Rattle.t1_font.proofs.InTurnLaws.{names-known}
use Rattle.t1_font.proofs.Lookups.{numbers_tell}
use Rattle.t1_font.proofs.Measuring.{own-none, same-function}
use Rattle.t1_faults.specs.Failing.{is_faulty_subr}
use Rattle.t1_run.specs.RunKeys.{has_number}
use Rattle.t1_faults.specs.ToRun.{glyph_run_in}

pub run_first : (item : Item) (items : List Item) (g : List ℕ) → glyph_to_run (item ∷ items) g ≡ option_or (glyph_run_in item g) (glyph_to_run items g)
run_first (Plain l) items g = refl
run_first (Section before n after) items g = refl
run_first (Subr n words closing) items g = refl
run_first (Glyph name words closing) items g = by (bytes_eq g name) (commands_or_none (commands words)) (glyph_to_run items g) where
  by : {X : Type 0} (b : Bool) (x : X) (r : Option X) → cond b (Some x) r ≡ option_or (cond b (Some x) None) r
  by true x r = refl
  by false x r = refl

pub glyphs_alone : (g : List ℕ) (items : List Item) → glyph_to_run (filter stands_alone items) g ≡ glyph_to_run items g
glyphs_alone g items = same_alone (λ is. glyph_to_run is g) (λ l is. refl)
    (λ item xs ys e. run_first item xs g ∙ ap (option_or (glyph_run_in item g)) e ∙ sym (run_first item ys g)) items

pub faulty_alone : (n : ℕ) (items : List Item) → list_any (is_faulty_subr n) (filter stands_alone items) ≡ list_any (is_faulty_subr n) items
faulty_alone n items = same_alone (list_any (is_faulty_subr n)) (λ l is. refl) (λ item xs ys e. ap (λ b. is_faulty_subr n item || b) e) items

-- a number that is put in is among the numbers
pub number_inserted : (n k : ℕ) (ks : List ℕ) → has_number (insert_key nat_eq ks k) n ≡ (has_number ks n || nat_eq n k)
number_inserted n k ks =
    elim (cases_Bool (list_any (nat_eq k) ks)) [
      | inl there ↦
          rw there
          (elim (cases_Bool (nat_eq n k)) [
            | inl same ↦ rw (same, numbers_tell.same n k same, there) refl
            | inr other ↦ rw other (sym (or-false (list_any (nat_eq n) ks)))
          ])
      | inr absent ↦
          rw absent (
          list_any-append (nat_eq n) ks (k ∷ [])
          ∙ ap (λ b. list_any (nat_eq n) ks || b) (or-false (nat_eq n k)))
    ]

-- ---- the runs

-- what is kept of all glyphs is what their own bodies draw
pub all_own : (items : List Item) (kept : List ℕ → Option (Result Drawing Code)) → ((g : List ℕ) → kept g ≡ own_among (font_to_run items) (glyph_names items) g) → kept ≡ own (font_to_run items)
all_own items kept h = same-function kept (own (font_to_run items)) (λ g. h g ∙ by g (list_any (bytes_eq g) (glyph_names items)) refl) where
  by : (g : List ℕ) (b : Bool) → list_any (bytes_eq g) (glyph_names items) ≡ b → cond b (own (font_to_run items) g) None ≡ own (font_to_run items) g
  by g true e = refl
  by g false e = sym (own-none (font_to_run items) g (none-there (glyph_to_run items g) (sym (names-known items g) ∙ e)))

-- fonts whose maps are the same are the same
pub same_fonts : (subrs subrs' : ℕ → Option (List Command)) (glyphs glyphs' : List ℕ → Option (List Command))
    → ((n : ℕ) → subrs n ≡ subrs' n) → ((g : List ℕ) → glyphs g ≡ glyphs' g) → font subrs glyphs ≡ font subrs' glyphs'
same_fonts subrs subrs' glyphs glyphs' s g = ap (λ m. font m glyphs) (same-function subrs subrs' s) ∙ ap (font subrs') (same-function glyphs glyphs' g)

-- ---- all names have something to be run

or_first : (a b : Bool) → a ≡ true → (a || b) ≡ true
or_first true b h = refl
or_first false b h = absurd (cc)

or_second : (a b : Bool) → b ≡ true → (a || b) ≡ true
or_second true b h = refl
or_second false b h = h

all_there : (P : List ℕ → Type 0) (names : List (Bor (List ℕ))) → ((g : List ℕ) → list_any (bytes_eq g) (map (λ name. name.now) names) ≡ true → P g)
    → All (λ name. P name.now) names
all_there P [] h = All-nil (λ name. P name.now)
all_there P (name ∷ names) h =
    All-cons (λ name. P name.now) name names (h name.now (or_first (bytes_eq name.now name.now) _ (bytes_self name.now)))
    (all_there P names (λ g e. h g (or_second (bytes_eq g name.now) _ e)))

pub names_there : (glyphs : List ℕ → Option (List Command)) (items : List Item) (names : List (Bor (List ℕ))) → ((g : List ℕ) → glyphs g ≡ glyph_to_run items g)
    → map (λ name. name.now) names ≡ glyph_names items → All (λ name. IsSome (glyphs name.now)) names
names_there glyphs items names same is =
    all_there (λ g. IsSome (glyphs g)) names (λ g among. rw (same g) (sym (names-known items g) ∙ sym (ap (list_any (bytes_eq g)) is) ∙ among))

-- what a call keeps that runs these glyphs is what their own bodies draw
pub kept_own : {E : Type 0} (items : List Item) (subrs : ℕ → Option (List Command)) (glyphs : List ℕ → Option (List Command))
    → ((n : ℕ) → subrs n ≡ subr_among items n) → ((g : List ℕ) → glyphs g ≡ glyph_to_run items g)
    → (names : List (Bor (List ℕ))) → map (λ name. name.now) names ≡ glyph_names items
    → (result : Result (List NamedRun) E) → IfOk result (λ runs. (g : List ℕ) → drawing_in runs g ≡ own_among (font subrs glyphs) (map (λ name. name.now) names) g)
    → IfOk result (λ runs. drawing_in runs ≡ own (font_to_run items))
kept_own items subrs glyphs s g names are (Err e) h = tt
kept_own items subrs glyphs s g names are (Ok runs) h =
    let same : font subrs glyphs ≡ font_to_run items = same_fonts subrs (subr_among items) glyphs (glyph_to_run items) s g in
    all_own items (drawing_in runs) (λ q. h q ∙ ap (λ m. own_among m (map (λ name. name.now) names) q) same ∙ ap (λ ns. own_among (font_to_run items) ns q) are)
