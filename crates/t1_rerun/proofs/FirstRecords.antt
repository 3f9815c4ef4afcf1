-- The records of a source from scratch are right.
use Rattle.std.proofs.Common.{◌≡◌, ℕ, Bool, true, false, length, List, map, refl, sym, ◌∙◌, ap, subst, arith, Option, Some, None, is_some}
use Rattle.std.specs.Prelude.{Result, Ok, Err}
use Rattle.std.specs.Borrow.{Bor}
use Rattle.std.specs.List.{AllByRecursion, list_all, list_any}
use Rattle.std.specs.Option.{option_map}
use Rattle.std.specs.Str.{bytes_eq}
use Rattle.t1_frac.specs.declared.fault.Fault.{Fault}
use Rattle.t1_frac.specs.declared.fault.Refusal.{Refusal}
use Rattle.t1_frac.specs.declared.fault.Refusal.TheVariants as refusals
use Rattle.t1_frac.specs.Outcome.{◌>>=◌, Refuses}
use Rattle.t1_code.specs.declared.command.Command.{Command}
use Rattle.t1_parts.specs.Printing.{text}
use Rattle.t1_parts.specs.Reading.{reads}
use Rattle.t1_parts.specs.SourceParts.{SourceParts}
use Rattle.t1_source.specs.WellFormed.{is_counted}
use Rattle.t1_source.proofs.WellFormedSourceLaws.{source_well_formed}
use Rattle.t1_run.specs.Composite.{outline, outline_within}
use Rattle.t1_run.specs.Run.{FontBodies, Glyph, own}
use Rattle.t1_run.specs.Touched.{is_user}
use Rattle.t1_run.proofs.Agreeing.{own_same}
use Rattle.t1_font.specs.declared.glyph_metrics.GlyphMetrics.{GlyphMetrics}
use Rattle.t1_font.specs.Assembly.{file_check}
use Rattle.t1_font.specs.Bodies.{bodies, bodies_check}
use Rattle.t1_font.specs.KeptBodies.{SameBodies}
use Rattle.t1_font.specs.Glyphs.{Glyph as Reported, glyphs, glyphs_by, glyph_names}
use Rattle.t1_font.specs.MeasuredGlyphs.{glyph_metrics}
use Rattle.t1_font.specs.MetricsByRuns.{glyph_metrics_among}
use Rattle.t1_font.specs.Runs.{NamedRun as KeptRun, drawing_kept, run_kept, drawing_in as run_of, own_among, AreTraced, Counts, CountsSome, IsNumberedAfter, IsTracedAs}
use Rattle.t1_font.specs.RunCounts.{counted}
use Rattle.t1_font.specs.SourceChecks.{source_check}
use Rattle.t1_font.proofs.GlyphsOfSource.{check-by-glyphs}
use Rattle.t1_font.proofs.Counted.{counted-source}
use Rattle.t1_font.proofs.Measuring.{keeps-own, names-there, KeepsOwn, outline-is, same-function}
use Rattle.t1_cache.specs.declared.records.Records.{Records}
use Rattle.t1_cache.specs.Bodies.{record_bodies}
use Rattle.t1_cache.specs.Laws.{fault_check, AreDistinct}
use Rattle.t1_cache.specs.Recorded.{IsFromScratch, RecordedGlyph, kept_of}
use Rattle.t1_cache.specs.Tables.{AreTables}
use Rattle.t1_cache.proofs.Distinct.{names_distinct}
use Rattle.t1_cache.proofs.Renewing.{shown-all}
use Rattle.t1_cache.proofs.Lists.{all-weaken, all-at}
use Rattle.t1_rerun.specs.Opened.{measured_names, opening_runs, runs_where, AreMeasured, IsRecorded}
use Rattle.t1_rerun.specs.RunNumbers.{IsRunAfter}
use Rattle.t1_rerun.specs.Renewals.{HasRun}
use Rattle.t1_rerun.specs.Right.{IsRight}
use Rattle.t1_rerun.proofs.Steps.{same-twice}
use Rattle.t1_rerun.proofs.Gathering.{box-measured, measured-all, ok-run, IsMeasured}
use Rattle.t1_rerun.proofs.Meeting.{glyph-among}
use Rattle.t1_rerun.proofs.Reaching.{all-some}

-- ---- fonts with the same bodies

own-alike : (m n : FontBodies) → SameBodies m n → (g : List ℕ) → own m g ≡ own n g
own-alike m n same g = sym (own_same m n g (record { same = λ key i. same key })).0

-- ---- what is reported of a font's glyphs

reported-by : (m : FontBodies) (names : List (List ℕ)) → glyph_metrics_among (own m) names ≡ (glyphs m names >>= (λ gs. Ok (map glyph_metrics gs)))
unfolding glyph_metrics_among
reported-by m names =
    ap (λ o. glyphs_by (own m) o names >>= (λ gs. Ok (map glyph_metrics gs))) (same-function (outline_within (own m) 4) (outline m) (outline-is m))

glyphs-reported : (m : FontBodies) (names : List (List ℕ)) (metrics : List GlyphMetrics) → glyph_metrics_among (own m) names ≡ Ok metrics
    → (reported : List Reported) × (glyphs m names ≡ Ok reported)
glyphs-reported m names metrics e = by (glyphs m names) refl (sym (reported-by m names) ∙ e) where
  by : (r : Result (List Reported) Fault) → glyphs m names ≡ r → (r >>= (λ gs. Ok (map glyph_metrics gs))) ≡ Ok metrics → (reported : List Reported) × (glyphs m names ≡ Ok reported)
  by (Ok reported) is e = (reported, is)
  by (Err fault) is e = absurd (cc)

-- ---- a source whose file has no fault

module _ (s : SourceParts) (file : file_check s ≡ Ok tt) where
  checked-is : source_check s ≡ fault_check (glyphs (bodies s.items) (glyph_names s.items))
  checked-is = check-by-glyphs s ∙ ap (λ r. (r >>= λ checked. glyphs (bodies s.items) (glyph_names s.items)) >>= λ gs. Ok tt) file

  pub runs-are : opening_runs s ≡ length (glyph_names s.items)
  runs-are = ap (λ r. runs_where r (glyph_names s.items)) file

  module _ (bs : FontBodies) (same : SameBodies bs (bodies s.items)) (checked : bodies_check s.items ≡ Ok tt)
      (names : List (Bor (List ℕ))) (are : map (λ name. name.now) names ≡ glyph_names s.items)
      (runs : List KeptRun) (kept : (g : List ℕ) → run_of runs g ≡ own_among bs (map (λ name. name.now) names) g) where
    abbrev m : FontBodies
    m = bodies s.items

    keeps : KeepsOwn (run_of runs) s.items
    keeps = keeps-own bs s.items runs same (λ g. kept g ∙ ap (λ l. own_among bs l g) are)

    own-reported : glyph_metrics_among (run_of runs) (map (λ name. name.now) names) ≡ glyph_metrics_among (own m) (glyph_names s.items)
    own-reported =
        ap (glyph_metrics_among (run_of runs)) are
        ∙ ap (λ run. glyph_metrics_among run (glyph_names s.items)) (same-function (run_of runs) (own m) keeps)

    -- their first fault is the source's
    pub first-fault : (refusal : Refusal) → Refuses refusal (glyph_metrics_among (run_of runs) (map (λ name. name.now) names)) → Refuses refusal (source_check s)
    first-fault refusal h =
        subst (Refuses refusal) (sym checked-is)
        (by refusal (glyphs m (glyph_names s.items)) (subst (Refuses refusal) (own-reported ∙ reported-by m (glyph_names s.items)) h))
      where
        by : (refusal : Refusal) (r : Result (List Reported) Fault) → Refuses refusal (r >>= (λ gs. Ok (map glyph_metrics gs))) → Refuses refusal (fault_check r)
        by refusals.Memory r h = tt
        by (refusals.Fault fault) (Ok ts) h = absurd (cc)
        by (refusals.Fault fault) (Err e) h = cc

    module _ (metrics : List GlyphMetrics) (reported : glyph_metrics_among (run_of runs) (map (λ name. name.now) names) ≡ Ok metrics) where
      all : AllByRecursion (IsMeasured (own m)) metrics × (measured_names metrics ≡ glyph_names s.items)
      all = measured-all (own m) (glyph_names s.items) metrics (sym own-reported ∙ reported)

      its-glyphs : (ts : List Reported) × (glyphs m (glyph_names s.items) ≡ Ok ts)
      its-glyphs = glyphs-reported m (glyph_names s.items) metrics (sym own-reported ∙ reported)

      pub names-measured : map (λ name. name.now) names ≡ measured_names metrics
      names-measured = are ∙ sym all.1

      pub no-fault : source_check s ≡ Ok tt
      no-fault = checked-is ∙ ap fault_check its-glyphs.1

      has-run : (x : GlyphMetrics) → IsMeasured (own m) x → HasRun runs x
      has-run x is = ok-run (run_kept runs x.name) is.drawing (keeps x.name ∙ is.ran)

      has-body : (g : List ℕ) → is_some (bs.glyphs g) ≡ list_any (bytes_eq g) (measured_names metrics)
      has-body g = by (bs.glyphs g) refl (list_any (bytes_eq g) (measured_names metrics)) refl where
        by : (b : Option (List Command)) → bs.glyphs g ≡ b → (t : Bool) → list_any (bytes_eq g) (measured_names metrics) ≡ t
            → is_some (bs.glyphs g) ≡ list_any (bytes_eq g) (measured_names metrics)
        by (Some b) e t f =
            ap is_some e
            ∙ sym (ap (list_any (bytes_eq g)) all.1 ∙ glyph-among s.items g b (sym (same (Glyph g)) ∙ e))
        by None e false f = ap is_some e ∙ sym f
        by None e true f =
            let there = all-at (λ x. (b : List Command) × (bs.glyphs x ≡ Some b)) (map (λ name. name.now) names)
            (all-some bs.glyphs names (names-there bs s.items names tt checked same are)) g (ap (list_any (bytes_eq g)) names-measured ∙ f) in
            let never : ◌≡◌ {A = Option (List Command)} None (Some there.0) = sym e ∙ there.1 in
            absurd (cc)

      -- what is kept of its glyphs is what its bodies draw
      pub are-measured : (list_all is_counted s.items ≡ true → reads (text s) ≡ Ok s) → AreMeasured bs runs metrics
      are-measured again = record {
        distinct = subst AreDistinct (sym all.1) (names_distinct s (source_well_formed (text s) s (again (counted-source s file))));
        bodies = has-body;
        each = all-weaken (IsMeasured (own m)) (HasRun runs) has-run metrics all.0;
        draw = λ g. keeps g ∙ sym (own-alike bs m same g);
      }

      from-scratch : AreTraced runs → (k : RecordedGlyph) → IsRecorded runs metrics k → IsFromScratch m k
      from-scratch traced k is =
          let box = box-measured (own m) metrics k.name k.box all.0 is.box in
          record {
            segments = box.1.0;
            run = sym (keeps k.name) ∙ ap (option_map drawing_kept) is.run;
            trace = subst (IsTracedAs k.name) is.run (traced k.name);
            draws = sym (outline-is m k.name) ∙ box.1.1.1.0;
            box = box.1.1.1.1;
          }

      -- records of what was measured are those of the source
      pub are-right : AreTraced runs → (records : Records) → SameBodies (record_bodies records) bs → AreTables bs records
          → map (λ k. k.name) (map kept_of records.glyphs.entries) ≡ measured_names metrics
          → AllByRecursion (IsRecorded runs metrics) (map kept_of records.glyphs.entries) → IsRight s records
      are-right traced records compiled users order each = record {
        compiled = same-twice (record_bodies records) bs m compiled same;
        kept = record {
          glyphs = its-glyphs.0;
          faultless = ap (λ r. r >>= λ checked. glyphs m (glyph_names s.items)) file ∙ its-glyphs.1;
          from_scratch = shown-all m (glyph_names s.items) its-glyphs.0 (map kept_of records.glyphs.entries) its-glyphs.1 (order ∙ all.1)
              (all-weaken (IsRecorded runs metrics) (IsFromScratch m) (from-scratch traced) (map kept_of records.glyphs.entries) each);
        };
        users = λ k g. users k g ∙ ap (is_user k) (own-alike bs m same g);
      }

pub all-after : (count : ℕ) (runs : List KeptRun) (metrics : List GlyphMetrics) → ((g : List ℕ) → IsNumberedAfter count (run_kept runs g))
    → (ks : List RecordedGlyph) → AllByRecursion (IsRecorded runs metrics) ks → AllByRecursion (IsRunAfter count) ks
all-after count runs metrics after ks each =
    all-weaken (IsRecorded runs metrics) (IsRunAfter count) (λ k is. subst (IsNumberedAfter count) is.run (after k.name)) ks each

-- ---- counts

-- all were counted
pub counts-done : {T : Type 0} (runs old new : ℕ) (r : Result T Refusal) → new ≡ counted old runs → Counts runs old new r
counts-done runs old new (Ok done) h = h
counts-done runs old new (Err (refusals.Fault fault)) h = h
counts-done runs old new (Err refusals.Memory) h = (runs, omega arith, h)

-- where memory ran out, some were counted
pub counts-some : {T : Type 0} (runs old new : ℕ) (r : Result T Refusal) (e : Refusal) → r ≡ Err e → e ≡ refusals.Memory → CountsSome runs old new → Counts runs old new r
counts-some runs old new r e is memory some = rw (is, memory) some
