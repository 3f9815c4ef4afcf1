-- What an edit leaves of what a session keeps.
use Rattle.std.proofs.Common.{◌≡◌, ◌≤◌, ℕ, true, length, List, Result, Ok, Err, ap, sym, ◌∙◌, subst, arith}
use Rattle.std.specs.List.{list_all, AllByRecursion}
use Rattle.t1_frac.specs.declared.fault.Fault.{Fault}
use Rattle.t1_frac.specs.declared.fault.Refusal.{Refusal}
use Rattle.t1_frac.specs.declared.fault.Refusal.TheVariants as refusals
use Rattle.t1_parts.specs.SourceParts.{SourceParts}
use Rattle.t1_parts.specs.Printing.{text}
use Rattle.t1_parts.specs.Reading.{reads}
use Rattle.t1_source.specs.declared.edit.Edit.{Edit}
use Rattle.t1_pairs.specs.declared.pairs.Pair.{Pair}
use Rattle.t1_source.specs.Editing.{edited}
use Rattle.t1_source.specs.WellFormed.{is_counted}
use Rattle.t1_source.specs.declared.editing.Change.{Change}
use Rattle.t1_source.specs.Changes.{changed, Suits}
use Rattle.t1_run.specs.Run.{Key}
use Rattle.t1_font.specs.Assembly.{file_check}
use Rattle.t1_font.specs.Runs.{Counts}
use Rattle.t1_font.specs.RunCounts.{counted}
use Rattle.t1_font.specs.SourceChecks.{source_check}
use Rattle.t1_cache.specs.Edited.{stale}
use Rattle.t1_cache.specs.EditKeys.{named}
use Rattle.t1_cache.specs.Recorded.{RecordedGlyph}
use Rattle.t1_rerun.specs.Opened.{runs_where}
use Rattle.t1_held.specs.declared.held.Held.{Held}
use Rattle.t1_held.specs.Held.{IsHeld}
use Rattle.t1_held.specs.Edits.{IsPreparedEdit}
use Rattle.t1_held.proofs.HeldLaws.{checked_well, file_checked, right_checked}
use Rattle.t1_rerun.specs.Renewing.{IsRunWhereStale}
use Rattle.t1_session.specs.RerunsByTest.{RenewsByTest, SpendsAtMost}
use Rattle.t1_session.specs.State.{SessionView}

-- each glyph that an edit of a source makes stale is run once; none, where a body or the file has a fault
abbrev pub renewing_runs : Edit → SourceParts → SourceParts → ℕ
renewing_runs edit old new = runs_where (file_check new) (stale old (named edit) new)

-- an edit of a session's source was prepared
abbrev pub edit_prepared : (s : SourceParts) (k : List Pair) (held : Held) (edit : Edit) (change : Change) → IsHeld s held
    → (list_all is_counted s.items ≡ true → reads (text s) ≡ Ok s) → Suits change s k → edited s k edit ≡ Ok (changed change s k)
    → IsPreparedEdit s k edit change held
edit_prepared s k held edit change is again serves e =
    record { held = is; well = checked_well s (right_checked s held.records is.right) again; serves = serves; made = e }

runs-most : (check : Result (Unit {0}) Fault) (names : List (List ℕ)) → runs_where check names ≤ length names
runs-most (Ok checked) names = omega arith
runs-most (Err fault) names = omega arith

pub edits_spend : (T : Type 0) (v new : SessionView) (old made : SourceParts) (keys : List Key) (count : ℕ) (kept : List RecordedGlyph) (refusal : Refusal)
    → v.state.source ≡ old → v.kept ≡ kept → v.runs ≡ count → new.kept ≡ kept
    → Counts {T = T} (runs_where (file_check made) (stale old keys made)) count new.runs (Err refusal)
    → SpendsAtMost (length (stale v.state.source keys made)) v new
edits_spend T v new old made keys count kept refusals.Memory source was were same some = record {
  kept = same ∙ sym was;
  made = some.0;
  at_most = let most = runs-most (file_check made) (stale old keys made) in
      subst (λ s. some.0 ≤ length (stale s keys made)) (sym source) (let few = some.1 in omega arith);
  count = some.2 ∙ ap (λ n. counted n some.0) (sym were);
}
edits_spend T v new old made keys count kept (refusals.Fault fault) source was were same counts = record {
  kept = same ∙ sym was;
  made = runs_where (file_check made) (stale old keys made);
  at_most = subst (λ s. runs_where (file_check made) (stale old keys made) ≤ length (stale s keys made)) (sym source) (runs-most (file_check made) (stale old keys made));
  count = counts ∙ ap (λ n. counted n (runs_where (file_check made) (stale old keys made))) (sym were);
}

-- their runs were made, and then memory ran out
pub edits_unmade : (v new : SessionView) (old made : SourceParts) (keys : List Key) (count : ℕ) (kept : List RecordedGlyph)
    → v.state.source ≡ old → v.kept ≡ kept → v.runs ≡ count → new.kept ≡ kept → source_check made ≡ Ok tt
    → new.runs ≡ counted count (runs_where (file_check made) (stale old keys made))
    → SpendsAtMost (length (stale v.state.source keys made)) v new
edits_unmade v new old made keys count kept source was were same checked runs =
    edits_spend (Unit {0}) v new old made keys count kept refusals.Memory source was were same (runs_where (file_check made) (stale old keys made), omega arith, runs)

-- their runs were made, and all of what they make is kept
pub edits_renew : (v new : SessionView) (old made : SourceParts) (keys : List Key) (count : ℕ) (kept : List RecordedGlyph)
    → v.state.source ≡ old → v.kept ≡ kept → v.runs ≡ count → source_check made ≡ Ok tt
    → new.runs ≡ counted count (runs_where (file_check made) (stale old keys made)) → AllByRecursion (IsRunWhereStale count keys old kept) new.kept
    → RenewsByTest (record { keys = keys; source = made }) v new
edits_renew v new old made keys count kept source was were checked runs each = record {
  runs = runs
      ∙ ap (λ check. counted count (runs_where check (stale old keys made))) (file_checked made checked)
      ∙ ap (λ n. counted n (length (stale old keys made))) (sym were)
      ∙ ap (λ s. counted v.runs (length (stale s keys made))) (sym source);
  each = subst (λ n. AllByRecursion (IsRunWhereStale n keys v.state.source v.kept) new.kept) (sym were)
      (subst (λ s. AllByRecursion (IsRunWhereStale count keys s v.kept) new.kept) (sym source)
      (subst (λ k. AllByRecursion (IsRunWhereStale count keys old k) new.kept) (sym was) each));
}

-- one edit

pub edit_spends : (T : Type 0) (v new : SessionView) (old made : SourceParts) (edit : Edit) (count : ℕ) (kept : List RecordedGlyph) (refusal : Refusal)
    → v.state.source ≡ old → v.kept ≡ kept → v.runs ≡ count → new.kept ≡ kept
    → Counts {T = T} (renewing_runs edit old made) count new.runs (Err refusal)
    → SpendsAtMost (length (stale v.state.source (named edit) made)) v new
edit_spends T v new old made edit = edits_spend T v new old made (named edit)

pub edit_unmade : (v new : SessionView) (old made : SourceParts) (edit : Edit) (count : ℕ) (kept : List RecordedGlyph)
    → v.state.source ≡ old → v.kept ≡ kept → v.runs ≡ count → new.kept ≡ kept → source_check made ≡ Ok tt
    → new.runs ≡ counted count (renewing_runs edit old made)
    → SpendsAtMost (length (stale v.state.source (named edit) made)) v new
edit_unmade v new old made edit = edits_unmade v new old made (named edit)
