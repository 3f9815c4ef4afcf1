-- What was measured of the stale glyphs is what is new of the edited font.
use Rattle.std.proofs.Common.{◌≡◌, ℕ, Bool, true, false, cond, List, [], ◌∷◌, map, filter, refl, sym, ◌∙◌, ap, subst, inl, inr, Option, Some, None}
use Rattle.std.specs.Prelude.{Result, Ok, Err, ◌||◌, ◌&&◌}
use Rattle.std.specs.List.{AllByRecursion, list_any}
use Rattle.std.specs.Option.{option_map, option_or}
use Rattle.std.specs.Str.{bytes_eq}
use Rattle.std.proofs.Math.Bool.{and-false}
use Rattle.t1_frac.specs.declared.fault.Code.{Code}
use Rattle.t1_frac.specs.declared.fault.Fault.{Fault}
use Rattle.t1_frac.specs.declared.fault.Place.TheVariants as places
use Rattle.t1_frac.specs.declared.fault.Refusal.{Refusal}
use Rattle.t1_frac.specs.declared.fault.Refusal.TheVariants as refusals
use Rattle.t1_frac.specs.Outcome.{reported_at, ◌>>=◌, Refuses}
use Rattle.t1_code.specs.declared.command.Command.{Command}
use Rattle.t1_parts.specs.SourceParts.{SourceParts}
use Rattle.t1_run.specs.declared.outline.Segment.{Segment}
use Rattle.t1_run.specs.Composite.{outline, outline_within}
use Rattle.t1_run.specs.Run.{FontBodies, Key, Drawing, own}
use Rattle.t1_extent.specs.Kept.{TracedRun}
use Rattle.t1_run.specs.Touched.{is_user}
use Rattle.t1_afm.specs.declared.bbox.BBox.{BBox}
use Rattle.t1_afm.specs.Box.{drawn_box}
use Rattle.t1_font.specs.declared.glyph_metrics.GlyphMetrics.{GlyphMetrics}
use Rattle.t1_font.specs.declared.glyph_metrics.PlacedParts.{PlacedParts}
use Rattle.t1_font.specs.Assembly.{file_check}
use Rattle.t1_font.specs.Bodies.{bodies}
use Rattle.t1_font.specs.KeptBodies.{SameBodies}
use Rattle.t1_font.specs.Glyphs.{Glyph as Reported, glyph_of, placed_parts_of, glyphs_by, glyphs, glyph_names}
use Rattle.t1_font.specs.MeasuredGlyphs.{glyph_metrics}
use Rattle.t1_font.specs.MetricsByRuns.{glyph_metrics_among}
use Rattle.t1_font.specs.Runs.{NamedRun as KeptRun, drawing_kept, run_kept, drawing_in as run_of, own_among, AreTraced, IsTracedAs}
use Rattle.t1_font.specs.SourceChecks.{source_glyphs, source_check}
use Rattle.t1_font.proofs.GlyphsOfSource.{check-by-glyphs}
use Rattle.t1_font.proofs.Measuring.{own-none}
use Rattle.t1_cache.specs.declared.records.Rerun.{Rerun}
use Rattle.t1_cache.specs.declared.records.Records.{Records}
use Rattle.t1_cache.specs.Edited.{IsEditedAt, stale}
use Rattle.t1_cache.specs.Kept.{without_serial, shown_from}
use Rattle.t1_cache.specs.Laws.{fault_check}
use Rattle.t1_cache.specs.Renewal.{kept_by}
use Rattle.t1_cache.specs.Recorded.{IsFromScratch, kept_of}
use Rattle.t1_cache.specs.Renewed.{recorded_run}
use Rattle.t1_cache.proofs.Judging.{first_fault_stale}
use Rattle.t1_cache.proofs.Renewing.{glyphs-of}
use Rattle.t1_rerun.specs.Newest.{newest_among}
use Rattle.t1_rerun.specs.Renewals.{rerun_names, HasBox, HasRun, IsMeasuredRerun}
use Rattle.t1_cache.proofs.Filtering.{among-passing, among-off}
use Rattle.t1_rerun.proofs.Meeting.{all-among, some-own, glyph-among, own-is, newest-is, own-body}

abbrev pub Runs : Type 0
Runs = List ℕ → Option (Result Drawing Code)

-- by runs that are kept a glyph draws, and its box is the one that was measured
pub record IsMeasured (run : Runs) (m : GlyphMetrics) : Type 0 where
  pub drawing : Drawing
  pub segments : List Segment
  pub ran : run m.name ≡ Some (Ok drawing)
  pub draws : outline_within run 4 m.name ≡ Ok segments
  pub box : m.bbox ≡ drawn_box segments

abbrev Outlines : Type 0
Outlines = List ℕ → Result (List Segment) Code

-- runs and outlines that agree on these names say the same of them
glyphs-same : (run run' : Runs) (o o' : Outlines) (names : List (List ℕ)) → AllByRecursion (λ g. (run g ≡ run' g) × (o g ≡ o' g)) names
    → glyphs_by run o names ≡ glyphs_by run' o' names
glyphs-same run run' o o' [] h = refl
glyphs-same run run' o o' (g ∷ names) h =
    ap (λ r. reported_at (places.Glyph g) (glyph_of g r (o g)) >>= (λ x. glyphs_by run o names >>= (λ xs. Ok (x ∷ xs)))) h.0.0
    ∙ ap (λ r. reported_at (places.Glyph g) (glyph_of g (run' g) r) >>= (λ x. glyphs_by run o names >>= (λ xs. Ok (x ∷ xs)))) h.0.1
    ∙ ap (λ r. reported_at (places.Glyph g) (glyph_of g (run' g) (o' g)) >>= (λ x. r >>= (λ xs. Ok (x ∷ xs)))) (glyphs-same run run' o o' names h.1)

-- ---- what is measured

measured-one : (run : Runs) (g : List ℕ) (t : Reported) → glyph_of g (run g) (outline_within run 4 g) ≡ Ok t
    → IsMeasured run (glyph_metrics t) × (t.name ≡ g)
measured-one run g t e = by (run g) refl (outline_within run 4 g) refl e where
  parts : (d : Drawing) (s : List Segment) → run g ≡ Some (Ok d) → outline_within run 4 g ≡ Ok s → (r : Result (Option PlacedParts) Code)
      → (r >>= (λ a. Ok (record { name = g; drawing = d; outline = s; parts = a }))) ≡ Ok t → IsMeasured run (glyph_metrics t) × (t.name ≡ g)
  parts d s ran draws (Err code) e = absurd (cc)
  parts d s ran draws (Ok a) e =
      let same : record { name = g; drawing = d; outline = s; parts = a } ≡ t = cc in
      subst (λ x. IsMeasured run (glyph_metrics x) × (x.name ≡ g)) same (record { drawing = d; segments = s; ran = ran; draws = draws; box = refl }, refl)

  by : (r : Option (Result Drawing Code)) → run g ≡ r → (o : Result (List Segment) Code) → outline_within run 4 g ≡ o → glyph_of g r o ≡ Ok t
      → IsMeasured run (glyph_metrics t) × (t.name ≡ g)
  by None ran o draws e = absurd (cc)
  by (Some (Err code)) ran o draws e = absurd (cc)
  by (Some (Ok d)) ran (Err code) draws e = absurd (cc)
  by (Some (Ok d)) ran (Ok s) draws e = parts d s ran draws (placed_parts_of d.bearing d.composite) e

measured-reported : (run : Runs) (names : List (List ℕ)) (ts : List Reported) → glyphs_by run (outline_within run 4) names ≡ Ok ts
    → AllByRecursion (IsMeasured run) (map glyph_metrics ts) × (map (λ m. m.name) (map glyph_metrics ts) ≡ names)
measured-reported run [] ts e = let same : [] ≡ ts = cc in subst (λ l. AllByRecursion (IsMeasured run) (map glyph_metrics l) × (map (λ m. m.name) (map glyph_metrics l) ≡ [])) same (tt, refl)
measured-reported run (g ∷ names) ts e =
    one (glyph_of g (run g) (outline_within run 4 g)) refl (glyphs_by run (outline_within run 4) names) refl (measured-reported run names) e where
      one : (r : Result Reported Code) → glyph_of g (run g) (outline_within run 4 g) ≡ r → (rest : Result (List Reported) Fault) → glyphs_by run (outline_within run 4) names ≡ rest
          → ((xs : List Reported) → glyphs_by run (outline_within run 4) names ≡ Ok xs → AllByRecursion (IsMeasured run) (map glyph_metrics xs) × (map (λ m. m.name) (map glyph_metrics xs) ≡ names))
          → (reported_at (places.Glyph g) r >>= (λ x. rest >>= (λ xs. Ok (x ∷ xs)))) ≡ Ok ts
          → AllByRecursion (IsMeasured run) (map glyph_metrics ts) × (map (λ m. m.name) (map glyph_metrics ts) ≡ g ∷ names)
      one (Ok x) here (Ok xs) there others e =
          let same : x ∷ xs ≡ ts = cc in
          let first = measured-one run g x here in
          let rest = others xs there in
          subst (λ l. AllByRecursion (IsMeasured run) (map glyph_metrics l) × (map (λ m. m.name) (map glyph_metrics l) ≡ g ∷ names)) same
          ((first.0, rest.0), ap (λ n. n ∷ map (λ m. m.name) (map glyph_metrics xs)) first.1 ∙ ap (λ l. g ∷ l) rest.1)
      one (Ok x) here (Err fault) there others e = absurd (cc)
      one (Err code) here rest there others e = absurd (cc)

pub measured-all : (run : Runs) (names : List (List ℕ)) (metrics : List GlyphMetrics) → glyph_metrics_among run names ≡ Ok metrics
    → AllByRecursion (IsMeasured run) metrics × (map (λ m. m.name) metrics ≡ names)
unfolding glyph_metrics_among
measured-all run names metrics e = by (glyphs_by run (outline_within run 4) names) refl e where
  by : (r : Result (List Reported) Fault) → glyphs_by run (outline_within run 4) names ≡ r → (r >>= (λ ts. Ok (map glyph_metrics ts))) ≡ Ok metrics
      → AllByRecursion (IsMeasured run) metrics × (map (λ m. m.name) metrics ≡ names)
  by (Ok ts) reported e =
      let same : map glyph_metrics ts ≡ metrics = cc in
      subst (λ l. AllByRecursion (IsMeasured run) l × (map (λ m. m.name) l ≡ names)) same (measured-reported run names ts reported)
  by (Err fault) reported e = absurd (cc)

-- a glyph that was measured has its run among those that are kept
pub measured-names : (g : List ℕ) (metrics : List GlyphMetrics) → list_any (λ m. bytes_eq g m.name) metrics ≡ list_any (bytes_eq g) (map (λ m. m.name) metrics)
measured-names g [] = refl
measured-names g (m ∷ metrics) = ap (λ b. bytes_eq g m.name || b) (measured-names g metrics)

pub box-measured : (run : Runs) (metrics : List GlyphMetrics) (g : List ℕ) (box : Option BBox) → AllByRecursion (IsMeasured run) metrics → HasBox metrics g box
    → (d : Drawing) × ((s : List Segment) × ((run g ≡ Some (Ok d)) × ((outline_within run 4 g ≡ Ok s) × (box ≡ drawn_box s))))
box-measured run [] g box all h = absurd h
box-measured run (m ∷ metrics) g box all (inl h) =
    (all.0.drawing, (all.0.segments, (ap run (sym h.0) ∙ all.0.ran, (ap (outline_within run 4) (sym h.0) ∙ all.0.draws, sym h.1 ∙ all.0.box))))
box-measured run (m ∷ metrics) g box all (inr h) = box-measured run metrics g box all.1 h

pub ok-run : (k : Option (Result TracedRun Code)) (d : Drawing) → option_map drawing_kept k ≡ Some (Ok d) → (r : TracedRun) × (k ≡ Some (Ok r))
ok-run None d e = absurd (cc)
ok-run (Some (Err code)) d e = absurd (cc)
ok-run (Some (Ok r)) d e = (r, refl)

-- a glyph among these names, with a body
abbrev IsHere : FontBodies → List (List ℕ) → List ℕ → Type 0
IsHere m names g = (list_any (bytes_eq g) names ≡ true) × ((b : List Command) × (m.glyphs g ≡ Some b))

all-here : (m : FontBodies) (names xs : List (List ℕ)) → AllByRecursion (λ g. (b : List Command) × (m.glyphs g ≡ Some b)) xs
    → AllByRecursion (λ x. list_any (bytes_eq x) names ≡ true) xs → AllByRecursion (IsHere m names) xs
all-here m names [] h i = tt
all-here m names (g ∷ xs) h i = ((i.0, h.0), all-here m names xs h.1 i.1)

all-of-map : (P : List ℕ → Type 0) (ms : List GlyphMetrics) → AllByRecursion P (map (λ x. x.name) ms) → AllByRecursion (λ x. P x.name) ms
all-of-map P [] h = tt
all-of-map P (x ∷ ms) h = (h.0, all-of-map P ms h.1)

-- each glyph that was measured by the newest runs has its run among those that are kept
pub have-runs : (m : FontBodies) (names : List (List ℕ)) (records : Records) → AllByRecursion (λ g. (b : List Command) × (m.glyphs g ≡ Some b)) names
    → (runs : List KeptRun) → ((g : List ℕ) → run_of runs g ≡ own_among m names g)
    → (metrics : List GlyphMetrics) → glyph_metrics_among (newest_among m names records) names ≡ Ok metrics → AllByRecursion (HasRun runs) metrics
have-runs m names records there runs runs-are metrics measured =
    go metrics all.0 (all-of-map (IsHere m names) metrics (subst (AllByRecursion (IsHere m names)) (sym all.1) (all-here m names names there (all-among names names (λ x h. h)))))
  where
    all : AllByRecursion (IsMeasured (newest_among m names records)) metrics × (map (λ x. x.name) metrics ≡ names)
    all = measured-all (newest_among m names records) names metrics measured

    one : (x : GlyphMetrics) → IsMeasured (newest_among m names records) x → IsHere m names x.name → HasRun runs x
    one x is here =
        let own_run = some-own m x.name here.1.0 here.1.1 in
        let among : own_among m names x.name ≡ Some own_run.0 = ap (λ b. cond b (own m x.name) None) here.0 ∙ own_run.1 in
        let newest : newest_among m names records x.name ≡ Some own_run.0 = ap (λ r. option_or r (recorded_run records x.name)) among in
        ok-run (run_kept runs x.name) is.drawing (runs-are x.name ∙ among ∙ sym newest ∙ is.ran)

    go : (ms : List GlyphMetrics) → AllByRecursion (IsMeasured (newest_among m names records)) ms → AllByRecursion (λ x. IsHere m names x.name) ms → AllByRecursion (HasRun runs) ms
    go [] ran here = tt
    go (x ∷ ms) ran here = (one x ran.0 here.0, go ms ran.1 here.1)

-- ---- an edited source

module _ (keys : List Key) (old new : SourceParts) (reported : List Reported) (edit : IsEditedAt keys old new) (was : source_glyphs old ≡ Ok reported)
    (records : Records) (kept : map without_serial (map kept_of records.glyphs.entries) ≡ map shown_from reported)
    (m : FontBodies) (bodies-are : SameBodies m (bodies new.items))
    (there : AllByRecursion (λ g. (b : List Command) × ((bodies new.items).glyphs g ≡ Some b)) (stale old keys new)) where
  abbrev newest : Runs
  newest = newest_among m (stale old keys new) records

  newest-all : (names : List (List ℕ)) → AllByRecursion (λ g. (b : List Command) × ((bodies new.items).glyphs g ≡ Some b)) names
      → AllByRecursion (λ g. (newest g ≡ own (bodies new.items) g) × (outline_within newest 4 g ≡ outline (bodies new.items) g)) names
  newest-all [] h = tt
  newest-all (g ∷ names) h = (newest-is keys old new reported edit was records kept m bodies-are g h.0.0 h.0.1, newest-all names h.1)

  reported-are : glyph_metrics_among newest (stale old keys new) ≡ (glyphs (bodies new.items) (stale old keys new) >>= (λ gs. Ok (map glyph_metrics gs)))
  unfolding glyph_metrics_among
  reported-are =
      ap (λ r. r >>= (λ gs. Ok (map glyph_metrics gs)))
      (glyphs-same newest (own (bodies new.items)) (outline_within newest 4) (outline (bodies new.items)) (stale old keys new) (newest-all (stale old keys new) there))

  module _ (file : file_check new ≡ Ok tt) where
    checked-is : source_check new ≡ fault_check (glyphs (bodies new.items) (stale old keys new))
    checked-is =
        check-by-glyphs new
        ∙ ap (λ r. (r >>= λ checked. glyphs (bodies new.items) (glyph_names new.items)) >>= λ gs. Ok tt) file
        ∙ first_fault_stale keys old new reported edit (glyphs-of old reported was)

    -- where the stale glyphs were measured, the source has no fault
    pub faultless : (metrics : List GlyphMetrics) → glyph_metrics_among newest (stale old keys new) ≡ Ok metrics → source_check new ≡ Ok tt
    faultless metrics e = checked-is ∙ by (glyphs (bodies new.items) (stale old keys new)) (sym reported-are ∙ e) where
      by : (r : Result (List Reported) Fault) → (r >>= (λ gs. Ok (map glyph_metrics gs))) ≡ Ok metrics → fault_check r ≡ Ok tt
      by (Ok ts) e = refl
      by (Err fault) e = absurd (cc)

    -- and their first fault is the source's
    pub refused : (refused : Refusal) → Refuses refused (glyph_metrics_among newest (stale old keys new)) → Refuses refused (source_check new)
    refused refusal h = subst (Refuses refusal) (sym checked-is) (by refusal (glyphs (bodies new.items) (stale old keys new)) (subst (Refuses refusal) reported-are h)) where
      by : (refusal : Refusal) (r : Result (List Reported) Fault) → Refuses refusal (r >>= (λ gs. Ok (map glyph_metrics gs))) → Refuses refusal (fault_check r)
      by refusals.Memory r h = tt
      by (refusals.Fault fault) (Ok ts) h = absurd (cc)
      by (refusals.Fault fault) (Err e) h = cc

  module _ (runs : List KeptRun) (runs-are : (g : List ℕ) → run_of runs g ≡ own_among m (stale old keys new) g) (traced : AreTraced runs)
      (metrics : List GlyphMetrics) (measured : glyph_metrics_among newest (stale old keys new) ≡ Ok metrics) where
    all-measured : AllByRecursion (IsMeasured newest) metrics × (map (λ x. x.name) metrics ≡ stale old keys new)
    all-measured = measured-all newest (stale old keys new) metrics measured

    -- a glyph whose run is kept and draws this has it in the edited font
    kept-own : (g : List ℕ) (r : Result Drawing Code) → run_of runs g ≡ Some r → own (bodies new.items) g ≡ Some r
    kept-own g r e = sym (own-is keys old new reported edit was records kept m bodies-are g) ∙ by (list_any (bytes_eq g) (stale old keys new)) (sym (runs-are g) ∙ e) where
      by : (b : Bool) → cond b (own m g) None ≡ Some r → own m g ≡ Some r
      by true h = h
      by false h = let never : ◌≡◌ {A = Option (Result Drawing Code)} None (Some r) = h in absurd (cc)

    scratch-one : (r : Rerun) → IsMeasuredRerun runs metrics r → IsFromScratch (bodies new.items) (kept_by r)
    scratch-one r is =
        let g = r.name.items in
        let box = box-measured newest metrics g r.bbox all-measured.0 is.box in
        let ran = kept-own g (Ok r.run.drawing) (ap (option_map drawing_kept) is.run) in
        let body = own-body (bodies new.items) g (Ok r.run.drawing) ran in
        record {
          segments = box.1.0;
          run = ran;
          trace = subst (IsTracedAs g) is.run (traced g);
          draws = sym (newest-is keys old new reported edit was records kept m bodies-are g body.0 body.1).1 ∙ box.1.1.1.0;
          box = box.1.1.1.1;
        }

    -- the runs and boxes that were gathered are those of the edited font
    pub scratch-reruns : (rs : List Rerun) → AllByRecursion (IsMeasuredRerun runs metrics) rs → AllByRecursion (λ r. IsFromScratch (bodies new.items) (kept_by r)) rs
    scratch-reruns [] all = tt
    scratch-reruns (r ∷ rs) all = (scratch-one r all.0, scratch-reruns rs all.1)

    pub names-gathered : (rs : List Rerun) → ((g : List ℕ) → list_any (bytes_eq g) (rerun_names rs) ≡ list_any (λ x. bytes_eq g x.name) metrics)
        → (g : List ℕ) → list_any (bytes_eq g) (rerun_names rs) ≡ list_any (bytes_eq g) (stale old keys new)
    names-gathered rs names g = names g ∙ measured-names g metrics ∙ ap (list_any (bytes_eq g)) all-measured.1

  -- the users that stale glyphs join by the runs that are kept are those of the edited font
  pub joins-are : (found : List ℕ → Bool) → filter found (glyph_names new.items) ≡ stale old keys new → (k : Key) (u : List ℕ)
      → (list_any (bytes_eq u) (stale old keys new) && is_user k (own_among m (stale old keys new) u)) ≡ (found u && is_user k (own (bodies new.items) u))
  joins-are found is k u = by (list_any (bytes_eq u) (stale old keys new)) refl where
    n : FontBodies
    n = bodies new.items

    passes : (b : Bool) → found u ≡ b → list_any (bytes_eq u) (stale old keys new) ≡ true → found u ≡ true
    passes true e h = e
    passes false e h =
        let never : true ≡ false = sym h ∙ ap (list_any (bytes_eq u)) (sym is) ∙ among-off found u (glyph_names new.items) e in
        absurd (cc)

    away : (body : Option (List Command)) → n.glyphs u ≡ body → (b : Bool) → found u ≡ b → list_any (bytes_eq u) (stale old keys new) ≡ false
        → false ≡ (found u && is_user k (own n u))
    away None e b f h = sym (and-false (found u)) ∙ ap (λ r. found u && is_user k r) (sym (own-none n u e))
    away (Some body) e false f h = sym (ap (λ t. t && is_user k (own n u)) f)
    away (Some body) e true f h =
        let never : true ≡ false = sym (ap (list_any (bytes_eq u)) (sym is) ∙ among-passing found u (glyph_names new.items) (glyph-among new.items u body e) f) ∙ h in
        absurd (cc)

    by : (b : Bool) → list_any (bytes_eq u) (stale old keys new) ≡ b
        → (list_any (bytes_eq u) (stale old keys new) && is_user k (own_among m (stale old keys new) u)) ≡ (found u && is_user k (own n u))
    by true h =
        ap (λ t. t && is_user k (cond t (own m u) None)) h
        ∙ ap (is_user k) (own-is keys old new reported edit was records kept m bodies-are u)
        ∙ sym (ap (λ t. t && is_user k (own n u)) (passes (found u) refl h))
    by false h = ap (λ t. t && is_user k (cond t (own m u) None)) h ∙ away (n.glyphs u) refl (found u) refl h
