-- What is reported of records, one after another.
use Rattle.std.proofs.Common.{◌≡◌, ◌+◌, ℕ, zero, suc, List, [], ◌∷◌, ◌++◌, append_assoc, map, drop, refl, sym, ◌∙◌, ap, subst, arith, Option, Some, None}
use Rattle.std.specs.Prelude.{Result, Ok, Err, slice_get}
use Rattle.std.specs.declared.alloc.Global.{Global}
use Rattle.std.specs.declared.vec.Vec.{Vec}
use Rattle.std.specs.List.{AllByRecursion}
use Rattle.t1_frac.specs.declared.fault.Code.{Code}
use Rattle.t1_frac.specs.declared.fault.Fault.{Fault}
use Rattle.t1_frac.specs.declared.fault.Place.TheVariants as places
use Rattle.t1_parts.specs.SourceParts.{SourceParts}
use Rattle.t1_run.specs.declared.outline.Segment.{Segment}
use Rattle.t1_run.specs.Composite.{outline}
use Rattle.t1_run.specs.Run.{Drawing, own}
use Rattle.t1_afm.specs.Box.{drawn_box, font_box, united}
use Rattle.t1_afm.proofs.Fonts.{font_box_of_boxes}
use Rattle.t1_font.specs.declared.glyph_metrics.PlacedParts.{PlacedParts}
use Rattle.t1_font.specs.Assembly.{file_check}
use Rattle.t1_font.specs.Bodies.{bodies}
use Rattle.t1_font.specs.Glyphs.{Glyph as Reported, glyph_of, placed_parts_of, glyphs_by, glyphs, glyph_names}
use Rattle.t1_font.specs.SourceChecks.{measured_source}
use Rattle.t1_cache.specs.Kept.{KeepsAll, without_serial, shown_from}
use Rattle.t1_frac.specs.declared.fault.Place.TheVariants.{Nowhere}
use Rattle.t1_frac.specs.declared.fault.Refusal.{Refusal}
use Rattle.t1_frac.specs.declared.fault.Refusal.TheVariants as refusals
use Rattle.t1_frac.specs.Outcome.{reported_at, ◌>>=◌, Refuses}
use Rattle.t1_font.specs.declared.glyph_metrics.GlyphMetrics.{GlyphMetrics}
use Rattle.t1_font.specs.MeasuredGlyphs.{glyph_metrics, measured, MeasuredFont}
use Rattle.t1_font.specs.MetricsByRuns.{glyph_metrics_by}
use Rattle.t1_cache.specs.declared.records.GlyphRecord.{GlyphRecord}
use Rattle.t1_cache.specs.Recorded.{RecordedGlyph, kept_of}
use Rattle.t1_rerun.specs.Measured.{kept_metrics}

abbrev Entries : Type 0
Entries = List (Vec ℕ Global × GlyphRecord)

-- a list stands in front of what a definition gives
abbrev pub fronted : List GlyphMetrics → Result (List GlyphMetrics) Code → Result (List GlyphMetrics) Code
fronted front r = r >>= λ ms. Ok (front ++ ms)

-- what was reported, in front of what is reported of the records that are left
abbrev pub IsReporting : Entries → ℕ → List GlyphMetrics → Type 0
IsReporting entries at front = fronted front (kept_metrics (map kept_of (drop at entries))) ≡ kept_metrics (map kept_of entries)

entry-first : (entries : Entries) (at : ℕ) (e : Vec ℕ Global × GlyphRecord) → slice_get entries at ≡ Some e → drop at entries ≡ e ∷ drop (at + 1) entries
entry-first [] at e h = absurd (cc)
entry-first (x ∷ entries) zero e h = let same : x ≡ e = cc in ap (λ y. y ∷ entries) same
entry-first (x ∷ entries) (suc at) e h =
    let next : suc at + 1 ≡ suc (at + 1) = omega arith in
    rw next (entry-first entries at e h)

reported-one : (r : Result GlyphMetrics Code) (m : GlyphMetrics) → reported_at Nowhere r ≡ Ok m → r ≡ Ok m
reported-one (Ok x) m h = let same : x ≡ m = cc in ap Ok same
reported-one (Err code) m h = absurd (cc)

front-more : (front : List GlyphMetrics) (m : GlyphMetrics) (r : Result (List GlyphMetrics) Code) → fronted (front ++ m ∷ []) r ≡ fronted front (r >>= λ ms. Ok (m ∷ ms))
front-more front m (Ok ms) = ap Ok (append_assoc front (m ∷ []) ms)
front-more front m (Err code) = refl

pub reporting-more : (entries : Entries) (at : ℕ) (front : List GlyphMetrics) (e : Vec ℕ Global × GlyphRecord) (m : GlyphMetrics) → slice_get entries at ≡ Some e
    → reported_at Nowhere (glyph_metrics_by e.0.items e.1.run.drawing e.1.bbox) ≡ Ok m → IsReporting entries at front → IsReporting entries (at + 1) (front ++ m ∷ [])
reporting-more entries at front e m here reported before =
    front-more front m (kept_metrics (map kept_of (drop (at + 1) entries)))
    ∙ sym (ap (λ r. fronted front (r >>= λ m. kept_metrics (map kept_of (drop (at + 1) entries)) >>= λ ms. Ok (m ∷ ms))) (reported-one (glyph_metrics_by e.0.items e.1.run.drawing e.1.bbox) m reported))
    ∙ sym (ap (λ l. fronted front (kept_metrics (map kept_of l))) (entry-first entries at e here))
    ∙ before

pub reporting-refused : (entries : Entries) (at : ℕ) (front : List GlyphMetrics) (e : Vec ℕ Global × GlyphRecord) (refused : Refusal) → slice_get entries at ≡ Some e
    → Refuses refused (reported_at Nowhere (glyph_metrics_by e.0.items e.1.run.drawing e.1.bbox)) → IsReporting entries at front
    → Refuses refused (reported_at Nowhere (kept_metrics (map kept_of entries)))
reporting-refused entries at front e refused here h before =
    subst (λ r. Refuses refused (reported_at Nowhere r)) (ap (λ l. fronted front (kept_metrics (map kept_of l))) (sym (entry-first entries at e here)) ∙ before)
    (by refused (glyph_metrics_by e.0.items e.1.run.drawing e.1.bbox) h)
  where
    by : (refused : Refusal) (r : Result GlyphMetrics Code) → Refuses refused (reported_at Nowhere r)
        → Refuses refused (reported_at Nowhere (fronted front (r >>= λ m. kept_metrics (map kept_of (drop (at + 1) entries)) >>= λ ms. Ok (m ∷ ms))))
    by refusals.Memory r h = tt
    by (refusals.Fault fault) (Ok m) h = absurd (cc)
    by (refusals.Fault fault) (Err code) h = cc

-- ---- a source whose records are right

reported-given : (g : List ℕ) (run : Option (Result Drawing Code)) (o : Result (List Segment) Code) (t : Reported) → glyph_of g run o ≡ Ok t
    → glyph_metrics_by t.name t.drawing (drawn_box t.outline) ≡ Ok (glyph_metrics t)
reported-given g None o t e = absurd (cc)
reported-given g (Some (Err code)) o t e = absurd (cc)
reported-given g (Some (Ok d)) (Err code) t e = absurd (cc)
reported-given g (Some (Ok d)) (Ok s) t e = by (placed_parts_of d.bearing d.composite) refl e where
  by : (r : Result (Option PlacedParts) Code) → placed_parts_of d.bearing d.composite ≡ r
      → (r >>= (λ a. Ok (record { name = g; drawing = d; outline = s; parts = a }))) ≡ Ok t
      → glyph_metrics_by t.name t.drawing (drawn_box t.outline) ≡ Ok (glyph_metrics t)
  by (Err code) is e = absurd (cc)
  by (Ok a) is e =
      let same : record { name = g; drawing = d; outline = s; parts = a } ≡ t = cc in
      subst (λ x. glyph_metrics_by x.name x.drawing (drawn_box x.outline) ≡ Ok (glyph_metrics x)) same
      (ap (λ r. r >>= (λ parts. Ok (record { name = g; width = d.width; entered = d.entered; parts = parts; bbox = drawn_box s }))) is)

reported-each : (run : List ℕ → Option (Result Drawing Code)) (o : List ℕ → Result (List Segment) Code) (names : List (List ℕ)) (ts : List Reported)
    → glyphs_by run o names ≡ Ok ts → AllByRecursion (λ t. glyph_metrics_by t.name t.drawing (drawn_box t.outline) ≡ Ok (glyph_metrics t)) ts
reported-each run o [] ts e = let same : [] ≡ ts = cc in subst (AllByRecursion (λ t. glyph_metrics_by t.name t.drawing (drawn_box t.outline) ≡ Ok (glyph_metrics t))) same tt
reported-each run o (g ∷ names) ts e = one (glyph_of g (run g) (o g)) refl (glyphs_by run o names) refl (reported-each run o names) e where
  one : (r : Result Reported Code) → glyph_of g (run g) (o g) ≡ r → (rest : Result (List Reported) Fault) → glyphs_by run o names ≡ rest
      → ((xs : List Reported) → glyphs_by run o names ≡ Ok xs → AllByRecursion (λ t. glyph_metrics_by t.name t.drawing (drawn_box t.outline) ≡ Ok (glyph_metrics t)) xs)
      → (reported_at (places.Glyph g) r >>= (λ x. rest >>= (λ xs. Ok (x ∷ xs)))) ≡ Ok ts
      → AllByRecursion (λ t. glyph_metrics_by t.name t.drawing (drawn_box t.outline) ≡ Ok (glyph_metrics t)) ts
  one (Ok x) here (Ok xs) there others e =
      let same : x ∷ xs ≡ ts = cc in
      subst (AllByRecursion (λ t. glyph_metrics_by t.name t.drawing (drawn_box t.outline) ≡ Ok (glyph_metrics t))) same (reported-given g (run g) (o g) x here, others xs there)
  one (Ok x) here (Err fault) there others e = absurd (cc)
  one (Err code) here rest there others e = absurd (cc)

metrics-of : (kept : List RecordedGlyph) (ts : List Reported) → map without_serial kept ≡ map shown_from ts
    → AllByRecursion (λ t. glyph_metrics_by t.name t.drawing (drawn_box t.outline) ≡ Ok (glyph_metrics t)) ts → kept_metrics kept ≡ Ok (map glyph_metrics ts)
metrics-of [] [] e all = refl
metrics-of [] (t ∷ ts) e all = absurd (cc)
metrics-of (k ∷ kept) [] e all = absurd (cc)
metrics-of (k ∷ kept) (t ∷ ts) e all =
    let first : without_serial k ≡ shown_from t = cc in
    let rest : map without_serial kept ≡ map shown_from ts = cc in
    ap (λ s. glyph_metrics_by s.name s.drawing s.box >>= (λ m. kept_metrics kept >>= (λ ms. Ok (m ∷ ms)))) first
    ∙ ap (λ r. r >>= (λ m. kept_metrics kept >>= (λ ms. Ok (m ∷ ms)))) all.0
    ∙ ap (λ r. r >>= (λ ms. Ok (glyph_metrics t ∷ ms))) (metrics-of kept ts rest all.1)

boxes-are : (ts : List Reported) → map (λ s. s.bbox) (map glyph_metrics ts) ≡ map drawn_box (map (λ t. t.outline) ts)
boxes-are [] = refl
boxes-are (t ∷ ts) = ap (λ boxes. drawn_box t.outline ∷ boxes) (boxes-are ts)

-- what is reported of a font by what is reported of its glyphs
abbrev pub font_of : List GlyphMetrics → Result MeasuredFont Fault
font_of ms = Ok (record { metrics = ms; font_box = united (map (λ m. m.bbox) ms) })

abbrev reported_font : List Reported → Result MeasuredFont Fault
reported_font gs = Ok (record { metrics = map glyph_metrics gs; font_box = font_box (map (λ g. g.outline) gs) })

-- by right records, the metrics are those of the source
pub metrics-right : (s : SourceParts) (entries : Entries) → KeepsAll s (map kept_of entries)
    → (reported_at Nowhere (kept_metrics (map kept_of entries)) >>= font_of) ≡ measured_source s
unfolding measured_source measured
metrics-right s entries kept = by (file_check s) refl kept.faultless where
  by : (r : Result (Unit {0}) Fault) → file_check s ≡ r → (r >>= λ checked. glyphs (bodies s.items) (glyph_names s.items)) ≡ Ok kept.glyphs
      → (reported_at Nowhere (kept_metrics (map kept_of entries)) >>= font_of)
      ≡ (file_check s >>= λ checked. glyphs (bodies s.items) (glyph_names s.items) >>= reported_font)
  by (Err fault) is e = absurd (cc)
  by (Ok checked) is e =
      ap (λ r. reported_at Nowhere r >>= font_of)
      (metrics-of (map kept_of entries) kept.glyphs kept.from_scratch (reported-each (own (bodies s.items)) (outline (bodies s.items)) (glyph_names s.items) kept.glyphs e))
      ∙ ap (λ box. Ok (record { metrics = map glyph_metrics kept.glyphs; font_box = box }))
      (ap united (boxes-are kept.glyphs) ∙ sym (font_box_of_boxes (map (λ t. t.outline) kept.glyphs)))
      ∙ sym (ap (λ r. r >>= λ checked. glyphs (bodies s.items) (glyph_names s.items) >>= reported_font) is
      ∙ ap (λ r. r >>= reported_font) e)
