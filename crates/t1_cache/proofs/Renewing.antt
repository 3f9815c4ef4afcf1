-- Records in the order of the new names are those of the edited source.
use Rattle.std.proofs.Common.{◌≡◌, ℕ, false, List, [], ◌∷◌, map, refl, sym, ap, subst, ◌∙◌, Option, Some, None, inl, inr}
use Rattle.std.specs.Prelude.{Result, Ok, Err}
use Rattle.std.specs.List.{AllByRecursion}
use Rattle.std.proofs.lemmas.Bool.{cases_Bool}
use Rattle.t1_frac.specs.Outcome.{reported_at, ◌>>=◌}
use Rattle.t1_frac.specs.declared.fault.Code.{Code}
use Rattle.t1_frac.specs.declared.fault.Fault.{Fault}
use Rattle.t1_frac.specs.declared.fault.Place.TheVariants as places
use Rattle.t1_parts.specs.SourceParts.{SourceParts}
use Rattle.t1_run.specs.declared.outline.Segment.{Segment}
use Rattle.t1_run.specs.Composite.{outline}
use Rattle.t1_run.specs.Run.{FontBodies, Drawing, own}
use Rattle.t1_afm.specs.Box.{drawn_box}
use Rattle.t1_font.specs.Bodies.{bodies}
use Rattle.t1_font.specs.declared.glyph_metrics.PlacedParts.{PlacedParts}
use Rattle.t1_font.specs.Glyphs.{Glyph as Reported, placed_parts_of, glyph_of, glyphs, glyph_names}
use Rattle.t1_font.specs.Assembly.{file_check}
use Rattle.t1_font.specs.SourceChecks.{source_glyphs}
use Rattle.t1_run.proofs.Untouched.{untouched_kept}
use Rattle.t1_cache.specs.Edited.{is_stale}
use Rattle.t1_cache.specs.Kept.{without_serial, shown_from, KeptNamesLaw}
use Rattle.t1_cache.specs.Recorded.{RecordedGlyph, IsFromScratch, IsOneOf}
use Rattle.t1_cache.specs.Renewal.{IsRenewed, RenewalLaw}
use Rattle.t1_cache.proofs.Lists.{all-weaken}
use Rattle.t1_extent.proofs.Curves.{some_is}

-- ---- equations of lists and results

heads : {X : Type 0} (x y : X) (xs ys : List X) → x ∷ xs ≡ y ∷ ys → x ≡ y
heads x y xs ys e = cc

tails : {X : Type 0} (x y : X) (xs ys : List X) → x ∷ xs ≡ y ∷ ys → xs ≡ ys
tails x y xs ys e = cc

given : {X E : Type 0} (r : Result X E) (x y : X) → r ≡ Ok x → r ≡ Ok y → x ≡ y
given r x y e f = let h : Ok x ≡ Ok y = sym e ∙ f in cc

-- ---- what is reported of the glyphs of a font

pub record ReportsOne (m : FontBodies) (g : List ℕ) (t : Reported) : Type 0 where
  pub name : g ≡ t.name
  pub run : own m g ≡ Some (Ok t.drawing)
  pub draws : outline m g ≡ Ok t.outline

abbrev IsReported : Result Reported Code → Reported → Type 0
IsReported r t = r ≡ Ok t

abbrev Runs : Option (Result Drawing Code) → Drawing → Type 0
Runs r d = r ≡ Some (Ok d)

abbrev Draws : Result (List Segment) Code → List Segment → Type 0
Draws r s = r ≡ Ok s

reported-one : (g : List ℕ) (run : Option (Result Drawing Code)) (o : Result (List Segment) Code) (t : Reported) → glyph_of g run o ≡ Ok t
    → (g ≡ t.name) × ((run ≡ Some (Ok t.drawing)) × (o ≡ Ok t.outline))
reported-one g None o t e = absurd (cc)
reported-one g (Some (Err code)) o t e = absurd (cc)
reported-one g (Some (Ok d)) (Err code) t e = absurd (cc)
reported-one g (Some (Ok d)) (Ok s) t e = by (placed_parts_of d.bearing d.composite) e where
  by : (r : Result (Option PlacedParts) Code) → IsReported (r >>= (λ a. Ok (record { name = g; drawing = d; outline = s; parts = a }))) t
      → (g ≡ t.name) × (Runs (Some (Ok d)) t.drawing × Draws (Ok s) t.outline)
  by (Err code) e = absurd (cc)
  by (Ok a) e =
      let x : Reported = record { name = g; drawing = d; outline = s; parts = a } in
      let is : x ≡ t = given (Ok x) x t refl e in
      (ap (λ y. y.name) is, (ap (λ y. Some (Ok y.drawing)) is, ap (λ y. Ok y.outline) is))

reported-more : (m : FontBodies) (g : List ℕ) (names : List (List ℕ)) (reported : List Reported) → glyphs m (g ∷ names) ≡ Ok reported
    → (t : Reported) × ((ts : List Reported) × (ReportsOne m g t × ((glyphs m names ≡ Ok ts) × (reported ≡ t ∷ ts))))
reported-more m g names reported e = by (glyph_of g (own m g) (outline m g)) refl (glyphs m names) refl e where
  by : (r : Result Reported Code) → glyph_of g (own m g) (outline m g) ≡ r → (rest : Result (List Reported) Fault) → glyphs m names ≡ rest
      → (reported_at (places.Glyph g) r >>= (λ x. rest >>= (λ xs. Ok (x ∷ xs)))) ≡ Ok reported
      → (t : Reported) × ((ts : List Reported) × (ReportsOne m g t × ((glyphs m names ≡ Ok ts) × (reported ≡ t ∷ ts))))
  by (Ok t) here (Ok ts) there e =
      let one = reported-one g (own m g) (outline m g) t here in
      (t, (ts, (record { name = one.0; run = one.1.0; draws = one.1.1 }, (there, sym (given (Ok (t ∷ ts)) (t ∷ ts) reported refl e)))))
  by (Ok t) here (Err fault) there e = absurd (cc)
  by (Err code) here rest there e = absurd (cc)

-- ---- records from scratch

scratch-one : (m : FontBodies) (g : List ℕ) (t : Reported) (k : RecordedGlyph) → ReportsOne m g t → without_serial k ≡ shown_from t → IsFromScratch m k
scratch-one m g t k one e =
    let at : k.name ≡ g = ap (λ s. s.name) e ∙ sym one.name in
    record {
      segments = t.outline;
      run = ap (own m) at ∙ one.run ∙ ap (λ s. Some (Ok s.drawing)) (sym e);
      trace = ap (λ s. s.keeps_trace) e;
      draws = ap (outline m) at ∙ one.draws;
      box = ap (λ s. s.box) e;
    }

pub scratch-all : (m : FontBodies) (names : List (List ℕ)) (reported : List Reported) (kept : List RecordedGlyph) → glyphs m names ≡ Ok reported → map without_serial kept ≡ map shown_from reported
    → AllByRecursion (IsFromScratch m) kept
scratch-all m names reported [] e same = tt
scratch-all m [] reported (k ∷ kept) e same =
    let none : [] ≡ reported = given (Ok []) [] reported refl e in
    let never : without_serial k ∷ map without_serial kept ≡ [] = same ∙ ap (map shown_from) (sym none) in
    absurd (cc)
scratch-all m (g ∷ names) reported (k ∷ kept) e same =
    let more = reported-more m g names reported e in
    let both : without_serial k ∷ map without_serial kept ≡ shown_from more.0 ∷ map shown_from more.1.0 = same ∙ ap (map shown_from) more.1.1.1.1 in (
      scratch-one m g more.0 k more.1.1.0 (heads (without_serial k) (shown_from more.0) (map without_serial kept) (map shown_from more.1.0) both),
      scratch-all m names more.1.0 kept more.1.1.1.0 (tails (without_serial k) (shown_from more.0) (map without_serial kept) (map shown_from more.1.0) both),
    )

shown-one : (m : FontBodies) (g : List ℕ) (t : Reported) (k : RecordedGlyph) → ReportsOne m g t → k.name ≡ g → IsFromScratch m k → without_serial k ≡ shown_from t
shown-one m g t k one at is =
    let name : k.name ≡ t.name = at ∙ one.name in
    let drawing : k.run.drawing ≡ t.drawing = given (Ok k.run.drawing) k.run.drawing t.drawing refl (some_is (Ok k.run.drawing) (Ok t.drawing) (sym is.run ∙ ap (own m) at ∙ one.run)) in
    let draws : is.segments ≡ t.outline = given (outline m k.name) is.segments t.outline is.draws (ap (outline m) at ∙ one.draws) in
    let box : k.box ≡ drawn_box t.outline = is.box ∙ ap drawn_box draws in
    (λ j. record { name = name j; drawing = drawing j; keeps_trace = is.trace j; box = box j })

pub shown-all : (m : FontBodies) (names : List (List ℕ)) (reported : List Reported) (records : List RecordedGlyph) → glyphs m names ≡ Ok reported → map (λ k. k.name) records ≡ names
    → AllByRecursion (IsFromScratch m) records → map without_serial records ≡ map shown_from reported
shown-all m [] reported [] e order all = ap (map shown_from) (given (Ok []) [] reported refl e)
shown-all m [] reported (k ∷ records) e order all = absurd (cc)
shown-all m (g ∷ names) reported [] e order all = absurd (cc)
shown-all m (g ∷ names) reported (k ∷ records) e order all =
    let more = reported-more m g names reported e in
    let first = shown-one m g more.0 k more.1.1.0 (heads k.name g (map (λ k. k.name) records) names order) all.0 in
    let rest = shown-all m names more.1.0 records more.1.1.1.0 (tails k.name g (map (λ k. k.name) records) names order) all.1 in
    ap (λ s. s ∷ map without_serial records) first ∙ ap (λ l. shown_from more.0 ∷ l) rest ∙ ap (map shown_from) (sym more.1.1.1.1)

-- ---- records that are kept, and those that are renewed

pub one-of : (P : RecordedGlyph → Type 0) (kept : List RecordedGlyph) (k : RecordedGlyph) → AllByRecursion P kept → IsOneOf kept k → P k
one-of P [] k all i = absurd i
one-of P (x ∷ kept) k all (inl e) = subst P e all.0
one-of P (x ∷ kept) k all (inr i) = one-of P kept k all.1 i

pub glyphs-of : (s : SourceParts) (reported : List Reported) → source_glyphs s ≡ Ok reported → glyphs (bodies s.items) (glyph_names s.items) ≡ Ok reported
glyphs-of s reported e = by (file_check s) e where
  by : (r : Result (Unit {0}) Fault) → (r >>= λ checked. glyphs (bodies s.items) (glyph_names s.items)) ≡ Ok reported → glyphs (bodies s.items) (glyph_names s.items) ≡ Ok reported
  by (Ok checked) e = e
  by (Err fault) e = absurd (cc)

-- the records bear the names of the glyphs
names-reported : (m : FontBodies) (names : List (List ℕ)) (reported : List Reported) → glyphs m names ≡ Ok reported → map (λ t. t.name) reported ≡ names
names-reported m [] reported e = ap (map (λ t. t.name)) (sym (given (Ok []) [] reported refl e))
names-reported m (g ∷ names) reported e =
    let more = reported-more m g names reported e in
    ap (map (λ t. t.name)) more.1.1.1.1
    ∙ ap (λ x. x ∷ map (λ t. t.name) more.1.0) (sym more.1.1.0.name)
    ∙ ap (λ l. g ∷ l) (names-reported m names more.1.0 more.1.1.1.0)

kept-shown : (records : List RecordedGlyph) → map (λ k. k.name) records ≡ map (λ s. s.name) (map without_serial records)
kept-shown [] = refl
kept-shown (k ∷ records) = ap (λ l. k.name ∷ l) (kept-shown records)

reported-shown : (reported : List Reported) → map (λ s. s.name) (map shown_from reported) ≡ map (λ t. t.name) reported
reported-shown [] = refl
reported-shown (t ∷ reported) = ap (λ l. t.name ∷ l) (reported-shown reported)

pub names_kept : KeptNamesLaw
names_kept s records keeps =
    kept-shown records ∙ ap (map (λ s. s.name)) keeps.from_scratch ∙ reported-shown keeps.glyphs
    ∙ names-reported (bodies s.items) (glyph_names s.items) keeps.glyphs (glyphs-of s keeps.glyphs keeps.faultless)

pub renewed : RenewalLaw
renewed keys old new edit reported e kept records was order all =
    record {
      glyphs = reported;
      faultless = e;
      from_scratch = shown-all n (glyph_names new.items) reported records (glyphs-of new reported e) order (all-weaken (IsRenewed keys old new kept) (IsFromScratch n) each records all);
    }
  where
    m : FontBodies
    m = bodies old.items

    n : FontBodies
    n = bodies new.items

    fresh : (k : RecordedGlyph) → IsFromScratch m k → is_stale old keys k.name ≡ false → IsFromScratch n k
    fresh k is off =
        let same = untouched_kept keys m n edit.bodies k.name is.segments is.draws off in
        record { segments = is.segments; run = same.0 ∙ is.run; trace = is.trace; draws = same.1 ∙ is.draws; box = is.box }

    before : AllByRecursion (IsFromScratch m) kept
    before = scratch-all m (glyph_names old.items) was.glyphs kept (glyphs-of old was.glyphs was.faultless) was.from_scratch

    each : (k : RecordedGlyph) → IsRenewed keys old new kept k → IsFromScratch n k
    each k is =
        elim (cases_Bool (is_stale old keys k.name)) [
          | inl on ↦ is.stale on
          | inr off ↦ fresh k (one-of (IsFromScratch m) kept k before (is.fresh off)) off
        ]
