-- What commands leave of the records of a session, and of its count of runs.
use Rattle.std.specs.Prelude.{◌≡◌, ◌≤◌, ℕ, Bool, true, false, filter, length, List, Option, Some, None, Result, Ok, Err}
use Rattle.std.specs.List.{AllByRecursion}
use Rattle.std.specs.Option.{option_map}
use Rattle.std.specs.Result.{result_ok}
use Rattle.t1_parts.specs.SourceParts.{SourceParts}
use Rattle.t1_source.specs.declared.edit.Cause.{Cause}
use Rattle.t1_source.specs.Editing.{edited}
use Rattle.t1_run.specs.Run.{Key}
use Rattle.t1_run.specs.Touched.{AreStale}
use Rattle.t1_font.specs.Bodies.{bodies}
use Rattle.t1_font.specs.Glyphs.{glyph_names}
use Rattle.t1_font.specs.RunCounts.{counted}
use Rattle.t1_outline.specs.Counting.{outline_runs}
use Rattle.t1_cache.specs.EditKeys.{named}
use Rattle.t1_cache.specs.Recorded.{IsOneOf, RecordedGlyph}
use Rattle.t1_rerun.specs.RunNumbers.{IsRunAfter}
use Rattle.t1_commands.specs.declared.command.SessionCommand.{SessionCommand}
use Rattle.t1_commands.specs.declared.command.SessionCommand.TheVariants as commands
use Rattle.t1_held.specs.Batch.{Draft}
use Rattle.t1_session.specs.State.{SessionView, SessionState}

-- profile: the keys at which a source was edited, and the edited source
pub record Edition : Type 0 where
  pub keys : List Key
  pub source : SourceParts

-- profile, edits, batches: what a command edits, by the batch that is open, where one is
abbrev pub edition_in : Option Draft → SessionState → SessionCommand → Option Edition
edition_in None s (commands.Edit edit) = option_map (λ made. record { keys = named edit; source = made.0 }) (result_ok (edited s.source s.pairs edit))
edition_in (Some d) s commands.Commit = Some (record { keys = d.keys; source = d.source })
edition_in batch s c = None

-- profile, edits, batches: an edit outside a batch that breaks no edit rule edits the session's source, and so does the commit
-- of a batch, by all its edits; it is judged by its runs
abbrev pub edition : SessionState → SessionCommand → Option Edition
edition s c = edition_in s.batch s c

-- profile, edits: which glyphs are stale: those that the edits name, those whose own run in the source before them entered a
-- Subr that they name, and the composites on any glyph named so far, until none is added
pub record Staleness (e : Edition) (old : SourceParts) : Type 0 where
  pub is_stale : List ℕ → Bool
  pub closure : AreStale (bodies old.items) e.keys is_stale

-- profile: how many glyphs of the edited source are stale
abbrev pub stale_count : Edition → (List ℕ → Bool) → ℕ
stale_count e is_stale = length (filter is_stale (glyph_names e.source.items))

-- profile: a stale glyph has a run after this count, and each other glyph what was kept of it, the number of its run too
pub record IsRerun (count : ℕ) (is_stale : List ℕ → Bool) (kept : List RecordedGlyph) (k : RecordedGlyph) : Type 0 where
  pub stale : is_stale k.name ≡ true → IsRunAfter count k
  pub fresh : is_stale k.name ≡ false → IsOneOf kept k

-- profile: a source was edited: one run for each stale glyph, whose record has a run after the old count, and each other
-- record is one of those before
pub record Renews (e : Edition) (old new : SessionView) : Type 0 where
  pub stale : Staleness e old.state.source
  pub runs : new.runs ≡ counted old.runs (stale_count e stale.is_stale)
  pub each : AllByRecursion (IsRerun old.runs stale.is_stale old.kept) new.kept

-- profile: all that was kept stays, and one run for each stale glyph was made at most
pub record Spends (e : Edition) (old new : SessionView) : Type 0 where
  pub stale : Staleness e old.state.source
  pub kept : new.kept ≡ old.kept
  pub made : ℕ
  pub at_most : made ≤ stale_count e stale.is_stale
  pub count : new.runs ≡ counted old.runs made

-- profile: all that was kept stays, and no run was made
abbrev pub AreKept : SessionView → SessionView → Type 0
AreKept old new = (new.kept ≡ old.kept) × (new.runs ≡ old.runs)

-- profile: only an edit, or the commit of some, that is judged by its runs makes some: it runs the stale glyphs, each once, and no other
abbrev pub Reruns : {T : Type 0} → Option Edition → SessionView → Result T Cause → SessionView → Type 0
Reruns None old result new = AreKept old new
Reruns (Some e) old (Ok done) new = Renews e old new
Reruns (Some e) old (Err cause) new = Spends e old new

-- profile: the same, of a call that hands what it took back with each refusal
abbrev pub RerunsOrReturns : {T E : Type 0} → Option Edition → SessionView → Result T (Cause × E) → SessionView → Type 0
RerunsOrReturns {T} e old (Ok done) new = Reruns {T = T} e old (Ok done) new
RerunsOrReturns {T} e old (Err refused) new = Reruns {T = T} e old (Err refused.0) new

-- profile: all is as it was but for the count of runs
abbrev pub IsSameButForRuns : SessionView → SessionView → Type 0
IsSameButForRuns old new = new ≡ record old { runs = new.runs }

-- profile: for an outline that is shown as many runs were made as glyphs are run for it, the glyph and its parts; where memory ran
-- out, at most so many
abbrev pub RunsForOutline : {T E : Type 0} → List ℕ → SessionView → Result T E → SessionView → Type 0
RunsForOutline name old (Ok found) new = new.runs ≡ counted old.runs (outline_runs (bodies old.state.source.items) name)
RunsForOutline name old (Err e) new =
    (made : ℕ) × (made ≤ outline_runs (bodies old.state.source.items) name) × (new.runs ≡ counted old.runs made)
