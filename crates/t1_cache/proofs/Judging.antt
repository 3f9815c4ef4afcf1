-- The first fault of an edited source is that of its stale glyphs.
use Rattle.std.proofs.Common.{◌≡◌, ℕ, Bool, true, false, cond, not, List, [], ◌∷◌, filter, refl, sym, ◌∙◌, ap, subst, Option, Some, None}
use Rattle.std.specs.Prelude.{Result, Ok, Err}
use Rattle.std.specs.List.{AllByRecursion, list_any}
use Rattle.std.specs.Str.{bytes_eq}
use Rattle.std.proofs.lemmas.Bool.{not_from_false, or_parts}
use Rattle.t1_frac.specs.Outcome.{reported_at, ◌>>=◌}
use Rattle.t1_frac.specs.declared.fault.Code.{Code}
use Rattle.t1_frac.specs.declared.fault.Fault.{Fault}
use Rattle.t1_frac.specs.declared.fault.Place.{Place}
use Rattle.t1_frac.specs.declared.fault.Place.TheVariants as places
use Rattle.t1_frac.proofs.OutcomeLaws.{bind_ok}
use Rattle.t1_run.specs.declared.outline.Segment.{Segment}
use Rattle.t1_run.specs.Composite.{outline}
use Rattle.t1_run.specs.Footprint.{uses, is_part}
use Rattle.t1_run.specs.Run.{FontBodies, Key, Subr, Glyph, Drawing, own}
use Rattle.t1_font.specs.Bodies.{bodies}
use Rattle.t1_font.specs.Glyphs.{Glyph as Reported, placed_parts_of, glyph_of, glyphs_by, glyph_names}
use Rattle.t1_extent.specs.FoundRuns.{run_there}
use Rattle.t1_run.specs.Touched.{is_named, meets_run, meets_parts, touched_within, is_touched}
use Rattle.t1_run.proofs.Untouched.{untouched_kept}
use Rattle.t1_cache.specs.Edited.{is_stale}
use Rattle.t1_cache.specs.Laws.{fault_check, FirstFaultLaw}
use Rattle.t1_cache.proofs.Lists.{all-weaken}

-- ---- lists and tests

all-cond : {X : Type 0} (P : X → Type 0) (x : X) (xs : List X) (t : Bool) → P x → AllByRecursion P xs → AllByRecursion P (cond t (x ∷ xs) xs)
all-cond P x xs true h hs = (h, hs)
all-cond P x xs false h hs = hs

all-passing : {X : Type 0} (P : X → Type 0) (q : X → Bool) (xs : List X) → AllByRecursion P xs → AllByRecursion P (filter q xs)
all-passing P q [] h = tt
all-passing P q (x ∷ xs) h = all-cond P x (filter q xs) (q x) h.0 (all-passing P q xs h.1)

one-cond : {X : Type 0} (P : X → Type 0) (x : X) (xs : List X) (t : Bool) → AllByRecursion P (cond t (x ∷ xs) xs) → (t ≡ true → P x) × AllByRecursion P xs
one-cond P x xs true h = ((λ e. h.0), h.1)
one-cond P x xs false h = ((λ e. absurd (cc)), h)

all-where : {X : Type 0} (P : X → Type 0) (q : X → Bool) (xs : List X) → AllByRecursion P (filter q xs) → AllByRecursion (λ x. q x ≡ true → P x) xs
all-where P q [] h = tt
all-where P q (x ∷ xs) h = let p = one-cond P x (filter q xs) (q x) h in (p.0, all-where P q xs p.1)

-- ---- the first fault among a part of the glyphs

checked-one : (place : Place) (r : Result Reported Code) (rest : Result (List Reported) Fault)
    → fault_check (reported_at place r >>= (λ g. rest >>= (λ gs. Ok (g ∷ gs)))) ≡ (fault_check (reported_at place r) >>= λ _. fault_check rest)
checked-one place (Ok g) (Ok gs) = refl
checked-one place (Ok g) (Err fault) = refl
checked-one place (Err code) rest = refl

-- a glyph has no fault
abbrev pub IsFine : (List ℕ → Option (Result Drawing Code)) → (List ℕ → Result (List Segment) Code) → List ℕ → Type 0
IsFine run outline g = (reported : Reported) × (glyph_of g (run g) (outline g) ≡ Ok reported)

among-part : (run : List ℕ → Option (Result Drawing Code)) (outline : List ℕ → Result (List Segment) Code) (p : List ℕ → Bool) (names : List (List ℕ))
    → AllByRecursion (λ g. p g ≡ false → IsFine run outline g) names
    → fault_check (glyphs_by run outline names) ≡ fault_check (glyphs_by run outline (filter p names))
among-part run outline p [] h = refl
among-part run outline p (g ∷ names) h = one (p g) h.0 (among-part run outline p names h.1) where
  one : (t : Bool) → (t ≡ false → IsFine run outline g) → fault_check (glyphs_by run outline names) ≡ fault_check (glyphs_by run outline (filter p names))
      → fault_check (glyphs_by run outline (g ∷ names)) ≡ fault_check (glyphs_by run outline (cond t (g ∷ filter p names) (filter p names)))
  one true h e =
      checked-one (places.Glyph g) (glyph_of g (run g) (outline g)) (glyphs_by run outline names)
      ∙ ap (λ r. fault_check (reported_at (places.Glyph g) (glyph_of g (run g) (outline g))) >>= (λ _. r)) e
      ∙ sym (checked-one (places.Glyph g) (glyph_of g (run g) (outline g)) (glyphs_by run outline (filter p names)))
  one false h e =
      checked-one (places.Glyph g) (glyph_of g (run g) (outline g)) (glyphs_by run outline names)
      ∙ ap (λ r. fault_check (reported_at (places.Glyph g) r) >>= (λ _. fault_check (glyphs_by run outline names))) (h refl).1
      ∙ e

-- of glyphs without a fault each one is fine
pub fine-reported : (run : List ℕ → Option (Result Drawing Code)) (outline : List ℕ → Result (List Segment) Code) (names : List (List ℕ)) (gs : List Reported)
    → glyphs_by run outline names ≡ Ok gs → AllByRecursion (IsFine run outline) names
fine-reported run outline [] gs e = tt
fine-reported run outline (g ∷ names) gs e =
    one (glyph_of g (run g) (outline g)) refl (glyphs_by run outline names) refl (λ xs there. fine-reported run outline names xs there) e where
      one : (r : Result Reported Code) → glyph_of g (run g) (outline g) ≡ r → (rest : Result (List Reported) Fault) → glyphs_by run outline names ≡ rest
          → ((xs : List Reported) → glyphs_by run outline names ≡ Ok xs → AllByRecursion (IsFine run outline) names)
          → (reported_at (places.Glyph g) r >>= (λ x. rest >>= (λ xs. Ok (x ∷ xs)))) ≡ Ok gs
          → IsFine run outline g × AllByRecursion (IsFine run outline) names
      one (Ok x) here (Ok xs) there others e = ((x, here), others xs there)
      one (Ok x) here (Err fault) there others e = absurd (cc)
      one (Err code) here rest there others e = absurd (cc)

-- ---- glyphs that aren't stale

named-run : (keys : List Key) (g : List ℕ) (d : Drawing) → list_any (uses g d) keys ≡ false → is_named keys g ≡ false
named-run [] g d h = refl
named-run (Subr n ∷ keys) g d h = named-run keys g d (or_parts (uses g d (Subr n)) (list_any (uses g d) keys) h).1
named-run (Glyph x ∷ keys) g d h =
    let h' = or_parts (uses g d (Glyph x)) (list_any (uses g d) keys) h in
    rw ((or_parts (bytes_eq g x) (is_part x d.composite) h'.0).0) (named-run keys g d h'.1)

named-meets : (keys : List Key) (g : List ℕ) (r : Option (Result Drawing Code)) → meets_run keys g r ≡ false → is_named keys g ≡ false
named-meets keys g None h = h
named-meets keys g (Some (Err code)) h = absurd (cc)
named-meets keys g (Some (Ok d)) h = named-run keys g d h

pub unnamed : (m : FontBodies) (keys : List Key) (g : List ℕ) → is_touched m keys g ≡ false → is_named keys g ≡ false
unfolding is_touched
unnamed m keys g h =
    named-meets keys g (own m g) (or_parts (meets_run keys g (own m g)) (meets_parts (touched_within 3 m keys) (own m g)) h).0

pub drew : (g : List ℕ) (run : Option (Result Drawing Code)) (o : Result (List Segment) Code) (reported : Reported) → glyph_of g run o ≡ Ok reported
    → (segments : List Segment) × (o ≡ Ok segments)
drew g run o reported e =
    let first = bind_ok (run_there run) (λ d. o >>= (λ s. placed_parts_of d.bearing d.composite >>= (λ a. Ok (record { name = g; drawing = d; outline = s; parts = a })))) reported e in
    let second = bind_ok o (λ s. placed_parts_of first.0.bearing first.0.composite >>= (λ a. Ok (record { name = g; drawing = first.0; outline = s; parts = a }))) reported first.2 in
    (second.0, second.1)

pub first_fault_stale : FirstFaultLaw
first_fault_stale keys old new was edit e =
    let m = bodies old.items in
    let n = bodies new.items in
    let fine : AllByRecursion (IsFine (own m) (outline m)) (glyph_names old.items) = fine-reported (own m) (outline m) (glyph_names old.items) was e in
    let others = subst (AllByRecursion (IsFine (own m) (outline m))) edit.order (all-passing (IsFine (own m) (outline m)) (λ g. not (is_named keys g)) (glyph_names old.items) fine) in
    among-part (own n) (outline n) (is_stale old keys) (glyph_names new.items)
    (all-weaken (λ g. not (is_named keys g) ≡ true → IsFine (own m) (outline m) g) (λ g. is_stale old keys g ≡ false → IsFine (own n) (outline n) g)
    (λ g was_fine fresh. kept-fine keys m n g (λ o e'. untouched_kept keys m n edit.bodies g o e' fresh)
    (was_fine (not_from_false (is_named keys g) (unnamed m keys g fresh))))
    (glyph_names new.items) (all-where (IsFine (own m) (outline m)) (λ g. not (is_named keys g)) (glyph_names new.items) others))
  where
    kept-fine : (keys : List Key) (m n : FontBodies) (g : List ℕ) → ((o : List Segment) → outline m g ≡ Ok o → (own n g ≡ own m g) × (outline n g ≡ outline m g))
        → IsFine (own m) (outline m) g → IsFine (own n) (outline n) g
    kept-fine keys m n g same was =
        let d = drew g (own m g) (outline m g) was.0 was.1 in
        let s = same d.0 d.1 in
        (was.0, ap (λ r. glyph_of g r (outline n g)) s.0 ∙ ap (λ o. glyph_of g (own m g) o) s.1 ∙ was.1)
