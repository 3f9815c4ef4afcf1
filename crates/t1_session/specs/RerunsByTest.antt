-- What commands leave of the records of a session, by the test that finds stale glyphs: words of the functions within a session,
-- from which what its public calls promise of runs follows.
use Rattle.std.specs.Prelude.{◌≡◌, ◌≤◌, ℕ, length, Option, Some, None, Result, Ok, Err}
use Rattle.std.specs.List.{AllByRecursion}
use Rattle.t1_source.specs.declared.edit.Cause.{Cause}
use Rattle.t1_font.specs.RunCounts.{counted}
use Rattle.t1_cache.specs.Edited.{stale}
use Rattle.t1_rerun.specs.Renewing.{IsRunWhereStale}
use Rattle.t1_session.specs.Reruns.{AreKept, Edition}
use Rattle.t1_session.specs.State.{SessionView}

-- word: one run for each glyph that passes the test, and each other record is one of those before
pub record RenewsByTest (e : Edition) (old new : SessionView) : Type 0 where
  pub runs : new.runs ≡ counted old.runs (length (stale old.state.source e.keys e.source))
  pub each : AllByRecursion (IsRunWhereStale old.runs e.keys old.state.source old.kept) new.kept

-- word: all that was kept stays, and so many runs were made at most
pub record SpendsAtMost (runs : ℕ) (old new : SessionView) : Type 0 where
  pub kept : new.kept ≡ old.kept
  pub made : ℕ
  pub at_most : made ≤ runs
  pub count : new.runs ≡ counted old.runs made

-- word: only what edits a source makes runs
abbrev pub RerunsByTest : {T : Type 0} → Option Edition → SessionView → Result T Cause → SessionView → Type 0
RerunsByTest None old result new = AreKept old new
RerunsByTest (Some e) old (Ok done) new = RenewsByTest e old new
RerunsByTest (Some e) old (Err cause) new = SpendsAtMost (length (stale old.state.source e.keys e.source)) old new
