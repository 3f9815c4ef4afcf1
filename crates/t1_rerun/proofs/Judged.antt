-- Records of an edited source.
use Rattle.std.proofs.Common.{ℕ, List, [], ◌∷◌, map, sym, ◌∙◌, subst, inl, inr, Ok}
use Rattle.std.specs.List.{AllByRecursion}
use Rattle.t1_frac.specs.declared.fault.Refusal.{Refusal}
use Rattle.t1_frac.specs.Outcome.{Refuses}
use Rattle.t1_parts.specs.SourceParts.{SourceParts}
use Rattle.t1_run.specs.Run.{Key}
use Rattle.t1_font.specs.Assembly.{file_check}
use Rattle.t1_font.specs.Bodies.{bodies}
use Rattle.t1_font.specs.MeasuredGlyphs.{measured}
use Rattle.t1_font.specs.SourceChecks.{measured_source, source_check}
use Rattle.t1_font.proofs.Drawing.{refuses-then}
use Rattle.t1_cache.specs.declared.records.Records.{Records}
use Rattle.t1_cache.specs.Bodies.{record_bodies}
use Rattle.t1_cache.specs.declared.records.Rerun.{Rerun}
use Rattle.t1_cache.specs.Kept.{KeepsAll}
use Rattle.t1_cache.specs.Renewal.{kept_by}
use Rattle.t1_cache.specs.Recorded.{IsOneOf, RecordedGlyph}
use Rattle.t1_rerun.specs.RunNumbers.{IsRunAfter}
use Rattle.t1_rerun.specs.Renewals.{IsLater}
use Rattle.t1_rerun.specs.Renewing.{IsRunWhereStale}
use Rattle.t1_rerun.specs.Right.{IsRight}
use Rattle.t1_rerun.specs.Settled.{AreAsBefore, IsRenewedBy}
use Rattle.t1_rerun.proofs.Steps.{same-twice}

-- records that are as before are right for what they were right for
pub still-right : (old new : Records) → AreAsBefore old new → (s : SourceParts) → IsRight s old → IsRight s new
still-right old new same s right = record {
  compiled = same-twice (record_bodies new) (record_bodies old) (bodies s.items) same.bodies right.compiled;
  kept = subst (KeepsAll s) (sym same.kept) right.kept;
  users = λ k g. same.users k g ∙ right.users k g;
}

-- the first fault of the file is the source's
pub file-refused : (s : SourceParts) (refusal : Refusal) → Refuses refusal (file_check s) → Refuses refusal (source_check s)
unfolding measured_source
file-refused s refusal h =
    refuses-then refusal (measured_source s) (λ font. Ok tt) (refuses-then refusal (file_check s) (λ checked. measured s.items) h)

-- ---- runs

later-kept : (count : ℕ) (rs : List Rerun) (k : RecordedGlyph) → AllByRecursion (IsLater count) rs → IsOneOf (map kept_by rs) k → IsRunAfter count k
later-kept count [] k all h = absurd h
later-kept count (r ∷ rs) k all (inl e) = subst (IsRunAfter count) e all.0
later-kept count (r ∷ rs) k all (inr h) = later-kept count rs k all.1 h

-- what was renewed by later runs has them where it is stale
pub all-later-kept : (count : ℕ) (keys : List Key) (old : SourceParts) (rs : List Rerun) → AllByRecursion (IsLater count) rs → (kept ks : List RecordedGlyph)
    → AllByRecursion (IsRenewedBy keys old rs kept) ks → AllByRecursion (IsRunWhereStale count keys old kept) ks
all-later-kept count keys old rs later kept [] all = tt
all-later-kept count keys old rs later kept (k ∷ ks) all =
    (record { stale = λ on. later-kept count rs k later (all.0.stale on); fresh = all.0.fresh }, all-later-kept count keys old rs later kept ks all.1)
