-- The runs that commands make, by the closure of stale glyphs.
use Rattle.std.proofs.Common.{◌≡◌, ℕ, Option, Some, None, List, Result, Ok, Err, length, sym, ◌∙◌}
use Rattle.t1_frac.proofs.OutcomeLaws.{bind_ok}
use Rattle.t1_parts.specs.SourceParts.{SourceParts}
use Rattle.t1_source.specs.declared.edit.Cause.{Cause}
use Rattle.t1_run.specs.Run.{Key}
use Rattle.t1_run.specs.Touched.{AreStale}
use Rattle.t1_run.proofs.TouchedClosure.{touched_are_stale}
use Rattle.t1_font.specs.Bodies.{bodies}
use Rattle.t1_font.specs.SourceChecks.{source_check, source_glyphs}
use Rattle.t1_font.proofs.GlyphsOfSource.{check-by-glyphs}
use Rattle.t1_cache.specs.Edited.{is_stale, stale}
use Rattle.t1_cache.specs.Recorded.{RecordedGlyph}
use Rattle.t1_cache.proofs.Drawing.{all_draw}
use Rattle.t1_cache.proofs.Lists.{all-weaken}
use Rattle.t1_rerun.specs.Renewing.{IsRunWhereStale}
use Rattle.t1_session.specs.Reruns.{Edition, IsRerun, Renews, Reruns, Spends, Staleness}
use Rattle.t1_session.specs.RerunsByTest.{RenewsByTest, RerunsByTest, SpendsAtMost}
use Rattle.t1_session.specs.State.{SessionView}

stale-closure : (s : SourceParts) (keys : List Key) → source_check s ≡ Ok tt → AreStale (bodies s.items) keys (is_stale s keys)
stale-closure s keys e =
    let reported = bind_ok (source_glyphs s) (λ glyphs. Ok (tt {0})) tt (sym (check-by-glyphs s) ∙ e) in
    touched_are_stale (bodies s.items) keys (all_draw s reported.0 reported.1)

abbrev staleness : (e : Edition) (s : SourceParts) → source_check s ≡ Ok tt → Staleness e s
staleness e s checked = record { is_stale = is_stale s e.keys; closure = stale-closure s e.keys checked }

rerun : (count : ℕ) (e : Edition) (s : SourceParts) (kept : List RecordedGlyph) (k : RecordedGlyph) → IsRunWhereStale count e.keys s kept k → IsRerun count (is_stale s e.keys) kept k
rerun count e s kept k h = record { stale = h.stale; fresh = h.fresh }

renews : (e : Edition) (old new : SessionView) → source_check old.state.source ≡ Ok tt → RenewsByTest e old new → Renews e old new
renews e old new checked h = record {
  stale = staleness e old.state.source checked;
  runs = h.runs;
  each = all-weaken (IsRunWhereStale old.runs e.keys old.state.source old.kept) (IsRerun old.runs (is_stale old.state.source e.keys) old.kept)
      (rerun old.runs e old.state.source old.kept) new.kept h.each;
}

spends : (e : Edition) (old new : SessionView) → source_check old.state.source ≡ Ok tt → SpendsAtMost (length (stale old.state.source e.keys e.source)) old new → Spends e old new
spends e old new checked h = record {
  stale = staleness e old.state.source checked;
  kept = h.kept;
  made = h.made;
  at_most = h.at_most;
  count = h.count;
}

pub reruns : {T : Type 0} (e : Option Edition) (old new : SessionView) (r : Result T Cause) → source_check old.state.source ≡ Ok tt → RerunsByTest e old r new → Reruns e old r new
reruns None old new r checked h = h
reruns (Some e) old new (Ok done) checked h = renews e old new checked h
reruns (Some e) old new (Err cause) checked h = spends e old new checked h
