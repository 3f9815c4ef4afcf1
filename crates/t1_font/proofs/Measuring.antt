-- The glyphs of a source, from its bodies and their runs.
use Rattle.std.proofs.Common.{◌≡◌, ℕ, Bool, true, false, cond, List, [], ◌∷◌, map, refl, sym, ap, ◌∙◌, subst, Option, None, inl, inr, is_some}
use Rattle.std.specs.Prelude.{Result, Ok, Err, All, IsSome, ◌||◌}
use Rattle.std.specs.Borrow.{Bor}
use Rattle.std.specs.List.{list_any}
use Rattle.std.specs.Option.{option_or}
use Rattle.std.specs.Result.{result_ok}
use Rattle.std.specs.Str.{bytes_eq}
use Rattle.std.proofs.lemmas.Bool.{cases_Bool}
use Rattle.std.proofs.lemmas.List.Elements.{All-nil, All-cons}
use Rattle.t1_frac.specs.declared.fault.Code.{Code}
use Rattle.t1_frac.specs.declared.fault.Fault.{Fault}
use Rattle.t1_frac.specs.declared.fault.Place.{Place}
use Rattle.t1_frac.specs.declared.fault.Place.TheVariants as places
use Rattle.t1_frac.specs.declared.fault.Refusal.{Refusal}
use Rattle.t1_frac.specs.declared.fault.Refusal.TheVariants as refusals
use Rattle.t1_frac.specs.Outcome.{reported_at, ◌>>=◌, Refuses}
use Rattle.t1_parts.specs.declared.item.Item.{Item}
use Rattle.t1_parts.specs.declared.item.Item.TheVariants.{Plain, Section, Subr, Glyph}
use Rattle.t1_code.specs.declared.command.Command.{Command}
use Rattle.t1_code.specs.Words.{commands}
use Rattle.t1_run.specs.Composite.{outline, outline_within}
use Rattle.t1_run.specs.Run.{Drawing, FontBodies, own, own_of}
use Rattle.t1_run.proofs.Agreeing.{own_same}
use Rattle.t1_afm.specs.declared.bbox.BBox.{BBox}
use Rattle.t1_afm.specs.Box.{drawn_box, font_box, united}
use Rattle.t1_afm.proofs.Fonts.{font_box_of_boxes}
use Rattle.t1_font.specs.declared.glyph_metrics.GlyphMetrics.{GlyphMetrics}
use Rattle.t1_font.specs.Bodies.{bodies, bodies_check, words_check, glyph_among}
use Rattle.t1_font.specs.KeptBodies.{SameBodies}
use Rattle.t1_font.specs.Glyphs.{Glyph as Drawn, glyphs, glyphs_by, glyph_names}
use Rattle.t1_font.specs.Runs.{NamedRun, drawing_in, own_among}
use Rattle.t1_font.specs.MeasuredGlyphs.{glyph_metrics, measured, MeasuredFont}
use Rattle.t1_font.specs.MetricsByRuns.{glyph_metrics_among}
use Rattle.t1_run.proofs.Asked.{bytes_self}

-- ---- the glyphs of a source are there

or_first : (a b : Bool) → a ≡ true → (a || b) ≡ true
or_first true b h = refl
or_first false b h = absurd (cc)

or_second : (a b : Bool) → b ≡ true → (a || b) ≡ true
or_second true b h = refl
or_second false b h = h

pub words-there : (place : Place) (words : List (List ℕ)) (rest : Option (List Command)) (u : Unit {0}) → words_check place words ≡ Ok u
    → is_some (option_or (result_ok (commands words)) rest) ≡ true
unfolding words_check
words-there place words rest u e = checked (commands words) e where
  checked : (r : Result (List Command) Code) → (reported_at place r >>= λ _. Ok u) ≡ Ok u → is_some (option_or (result_ok r) rest) ≡ true
  checked (Ok cs) e = refl
  checked (Err code) e = absurd (cc)

-- where both of two steps have no fault, each has none
pub first-ok : (r : Result (Unit {0}) Fault) (next : Result (Unit {0}) Fault) (u : Unit {0}) → (r >>= λ _. next) ≡ Ok u → r ≡ Ok u
first-ok (Ok v) next u e = refl
first-ok (Err fault) next u e = absurd (cc)

pub next-ok : (r : Result (Unit {0}) Fault) (next : Result (Unit {0}) Fault) (u : Unit {0}) → (r >>= λ _. next) ≡ Ok u → next ≡ Ok u
next-ok (Ok v) next u e = e
next-ok (Err fault) next u e = absurd (cc)

glyph-there : (items : List Item) (g : List ℕ) (u : Unit {0}) → bodies_check items ≡ Ok u → list_any (bytes_eq g) (glyph_names items) ≡ true
    → is_some (glyph_among items g) ≡ true
glyph-there [] g u e h = absurd (cc)
glyph-there (Plain line ∷ items) g u e h = glyph-there items g u e h
glyph-there (Section before count after ∷ items) g u e h = glyph-there items g u e h
glyph-there (Subr number words closing ∷ items) g u e h =
    glyph-there items g u (next-ok (words_check (places.Subr number) words) (bodies_check items) u e) h
glyph-there (Glyph name words closing ∷ items) g u e h =
    elim (cases_Bool (bytes_eq g name)) [
      | inl same ↦ rw same (words-there (places.Glyph name) words (glyph_among items g) u (first-ok (words_check (places.Glyph name) words) (bodies_check items) u e))
      | inr other ↦
          rw other (glyph-there items g u (next-ok (words_check (places.Glyph name) words) (bodies_check items) u e)
          (rw other at h))
    ]

no-glyph : (items : List Item) (g : List ℕ) → list_any (bytes_eq g) (glyph_names items) ≡ false → glyph_among items g ≡ None
no-glyph [] g h = refl
no-glyph (Plain line ∷ items) g h = no-glyph items g h
no-glyph (Section before count after ∷ items) g h = no-glyph items g h
no-glyph (Subr number words closing ∷ items) g h = no-glyph items g h
no-glyph (Glyph name words closing ∷ items) g h =
    elim (cases_Bool (bytes_eq g name)) [
      | inl same ↦
          let never : true ≡ false = sym (or_first (bytes_eq g name) (list_any (bytes_eq g) (glyph_names items)) same) ∙ h in
          absurd (cc)
      | inr other ↦ rw other (no-glyph items g (rw other at h))
    ]

all-there : (P : List ℕ → Type 0) (names : List (Bor (List ℕ))) → ((g : List ℕ) → list_any (bytes_eq g) (map (λ name. name.now) names) ≡ true → P g)
    → All (λ name. P name.now) names
all-there P [] h = All-nil (λ name. P name.now)
all-there P (name ∷ names) h =
    All-cons (λ name. P name.now) name names (h name.now (or_first (bytes_eq name.now name.now) _ (bytes_self name.now)))
    (all-there P names (λ g e. h g (or_second (bytes_eq g name.now) _ e)))

pub names-there : (m : FontBodies) (items : List Item) (names : List (Bor (List ℕ))) (u : Unit {0}) → bodies_check items ≡ Ok u → SameBodies m (bodies items)
    → map (λ name. name.now) names ≡ glyph_names items → All (λ name. IsSome (m.glyphs name.now)) names
names-there m items names u e same is =
    all-there (λ g. IsSome (m.glyphs g)) names (λ g among.
    rw (same (Rattle.t1_run.specs.Run.Glyph g)) (glyph-there items g u e (sym (ap (list_any (bytes_eq g)) is) ∙ among)))

-- ---- runs over the maps of the code are those over the bodies

pub own-same : (m n : FontBodies) (g : List ℕ) → SameBodies m n → own m g ≡ own n g
own-same m n g same = sym (own_same m n g (record { same = λ key i. same key })).0

pub own-none : (m : FontBodies) (g : List ℕ) → m.glyphs g ≡ None → own m g ≡ None
unfolding own
own-none m g e = ap (own_of m) e

-- what is kept of a name is what its own body draws
abbrev pub KeepsOwn : (List ℕ → Option (Result Drawing Code)) → List Item → Type 0
KeepsOwn run items = (g : List ℕ) → run g ≡ own (bodies items) g

pub keeps-own : (m : FontBodies) (items : List Item) (runs : List NamedRun) → SameBodies m (bodies items)
    → ((g : List ℕ) → drawing_in runs g ≡ own_among m (glyph_names items) g) → KeepsOwn (drawing_in runs) items
keeps-own m items runs same kept g =
    elim (cases_Bool (list_any (bytes_eq g) (glyph_names items))) [
      | inl there ↦ kept g ∙ ap (λ b. cond b (own m g) None) there ∙ own-same m (bodies items) g same
      | inr absent ↦ kept g ∙ ap (λ b. cond b (own m g) None) absent ∙ sym (own-none (bodies items) g (no-glyph items g absent))
    ]

pub same-function : {A B : Type 0} (f g : A → B) → ((x : A) → f x ≡ g x) → f ≡ g
same-function f g h = λ j. λ x. h x j

-- by the runs that are kept, outlines are those of the bodies
pub outline-is : (m : FontBodies) (g : List ℕ) → outline_within (own m) 4 g ≡ outline m g
unfolding outline
outline-is m g = refl

kept-outline : (run : List ℕ → Option (Result Drawing Code)) (items : List Item) → KeepsOwn run items → (g : List ℕ) → outline_within run 4 g ≡ outline (bodies items) g
kept-outline run items kept g =
    ap (λ r. outline_within r 4 g) (same-function run (own (bodies items)) kept) ∙ outline-is (bodies items) g

metrics-are : (run : List ℕ → Option (Result Drawing Code)) (items : List Item) (names : List (List ℕ)) → KeepsOwn run items
    → glyph_metrics_among run names ≡ (glyphs (bodies items) names >>= (λ gs. Ok (map glyph_metrics gs)))
unfolding glyph_metrics_among
metrics-are run items names kept =
    ap (λ r. glyphs_by r (outline_within run 4) names >>= (λ gs. Ok (map glyph_metrics gs))) (same-function run (own (bodies items)) kept)
    ∙ ap (λ outline. glyphs_by (own (bodies items)) outline names >>= (λ gs. Ok (map glyph_metrics gs)))
    (same-function (outline_within run 4) (outline (bodies items)) (kept-outline run items kept))

-- ---- what is reported of all

abbrev whole : List Drawn → Result MeasuredFont Fault
whole gs = Ok (record { metrics = map glyph_metrics gs; font_box = font_box (map (λ g. g.outline) gs) })

measured-is : (items : List Item) → measured items ≡ (glyphs (bodies items) (glyph_names items) >>= whole)
unfolding measured
measured-is items = refl

boxes-are : (gs : List Drawn) → map (λ s. s.bbox) (map glyph_metrics gs) ≡ map drawn_box (map (λ g. g.outline) gs)
boxes-are [] = refl
boxes-are (g ∷ gs) = ap (λ boxes. drawn_box g.outline ∷ boxes) (boxes-are gs)

reported-all : (r : Result (List Drawn) Fault) (metrics : List GlyphMetrics) (box : BBox) → (r >>= (λ gs. Ok (map glyph_metrics gs))) ≡ Ok metrics
    → box ≡ united (map (λ s. s.bbox) metrics)
    → (r >>= whole) ≡ Ok (record { metrics = metrics; font_box = box })
reported-all (Ok gs) metrics box e f =
    let same : map glyph_metrics gs ≡ metrics = cc in
    let boxes = font_box_of_boxes (map (λ g. g.outline) gs) ∙ ap united (sym (boxes-are gs)) ∙ ap (λ l. united (map (λ s. s.bbox) l)) same ∙ sym f in
    ap (λ l. Ok (record { metrics = l; font_box = font_box (map (λ g. g.outline) gs) })) same
    ∙ ap (λ b. Ok (record { metrics = metrics; font_box = b })) boxes
reported-all (Err fault) metrics box e f = absurd (cc)

fault-of-all : (refused : Refusal) (r : Result (List Drawn) Fault) → Refuses refused (r >>= (λ gs. Ok (map glyph_metrics gs)))
    → Refuses refused (r >>= whole)
fault-of-all refusals.Memory r h = tt
fault-of-all (refusals.Fault fault) (Ok gs) h = absurd (cc)
fault-of-all (refusals.Fault fault) (Err e) h = cc

pub all-reported : (items : List Item) (run : List ℕ → Option (Result Drawing Code)) (metrics : List GlyphMetrics) (box : BBox) → KeepsOwn run items
    → glyph_metrics_among run (glyph_names items) ≡ Ok metrics → box ≡ united (map (λ s. s.bbox) metrics) → measured items ≡ Ok (record { metrics = metrics; font_box = box })
all-reported items run metrics box kept reported boxes =
    measured-is items
    ∙ reported-all (glyphs (bodies items) (glyph_names items)) metrics box (sym (metrics-are run items (glyph_names items) kept) ∙ reported) boxes

pub all-refused : (items : List Item) (run : List ℕ → Option (Result Drawing Code)) (refused : Refusal) → KeepsOwn run items
    → Refuses refused (glyph_metrics_among run (glyph_names items)) → Refuses refused (measured items)
all-refused items run refused kept h =
    subst (Refuses refused) (sym (measured-is items))
    (fault-of-all refused (glyphs (bodies items) (glyph_names items)) (subst (Refuses refused) (metrics-are run items (glyph_names items) kept) h))
