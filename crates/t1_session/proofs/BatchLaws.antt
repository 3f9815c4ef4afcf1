-- The batch that a session has open, and what its commands make of it.
use Rattle.std.proofs.Common.{◌≡◌, ℕ, true, false, List, [], ◌++◌, Option, None, Some, Result, Ok, Err, refl, sym, ap, ◌∙◌, subst, inl, inr}
use Rattle.std.specs.Prelude.{is_some, option_map}
use Rattle.std.specs.Result.{result_ok}
use Rattle.t1_frac.specs.declared.fault.Fault.{Fault}
use Rattle.t1_parts.specs.SourceParts.{SourceParts}
use Rattle.t1_pairs.specs.declared.pairs.Pair.{Pair}
use Rattle.t1_source.specs.declared.edit.Edit.{Edit}
use Rattle.t1_source.specs.declared.edit.Rule.{Rule}
use Rattle.t1_source.specs.declared.edit.Cause.{Cause}
use Rattle.t1_source.specs.declared.edit.Cause.TheVariants as causes
use Rattle.t1_source.specs.Editing.{edited}
use Rattle.t1_font.specs.SourceChecks.{source_check}
use Rattle.t1_run.specs.Run.{Key}
use Rattle.t1_cache.specs.EditKeys.{named}
use Rattle.t1_held.specs.Batch.{Draft}
use Rattle.t1_held.specs.Drafting.{Drafts}
use Rattle.t1_commands.specs.Answers.{Performed}
use Rattle.t1_commands.specs.declared.command.SessionCommand.TheVariants as commands
use Rattle.t1_session.specs.declared.open_batch.OpenBatch.{OpenBatch}
use Rattle.t1_session.specs.declared.open_batch.OpenBatch.TheVariants as batches
use Rattle.t1_session.specs.declared.refused.Refused.{Refused}
use Rattle.t1_session.specs.Commits.{Commits, RefusesSingle}
use Rattle.t1_session.specs.KeptRefusals.{OnFault}
use Rattle.t1_session.specs.Machine.{commit_in, edit_in, judged, outcome, refused_batch, taken, without_batch}
use Rattle.t1_session.specs.OpenBatch.{draft_of_edit, is_unedited, open_draft, DraftsOn, IsOpenOn, OpensWith}
use Rattle.t1_session.specs.Reruns.{edition, edition_in}
use Rattle.t1_session.specs.RerunsByTest.{RerunsByTest}
use Rattle.t1_session.specs.State.{SessionState, SessionView}
use Rattle.t1_session.specs.Unnoted.{TakesUnnoted, Took}
use Rattle.t1_session.proofs.RefusalLaws.{batch_reruns}
use Rattle.t1_session.proofs.StateLaws.{stays_alone}

-- ---- what is open

none-of : {A : Type 0} (o : Option A) → is_some o ≡ false → o ≡ None
none-of None e = refl
none-of (Some x) e = absurd (cc)

some-of : {A : Type 0} (o : Option A) → is_some o ≡ true → (x : A) × (o ≡ Some x)
some-of None e = absurd (cc)
some-of (Some x) e = (x, refl)

-- a batch of one edit by what the edit makes
pub single_draft : (s : SourceParts) (k : List Pair) (edit : Edit) (near : ℕ) (made : SourceParts × List Pair) → edited s k edit ≡ Ok made
    → open_draft s k (batches.Single edit near) ≡ Some (draft_of_edit edit made)
single_draft s k edit near made e = ap (λ (r : Result (SourceParts × List Pair) Rule). option_map (draft_of_edit edit) (result_ok r)) e

-- where no batch is open the session has none
pub closed_is : (s : SourceParts) (k : List Pair) (b : OpenBatch) → IsOpenOn s k b → open_draft s k b ≡ None → b ≡ batches.Closed
closed_is s k batches.Closed h e = refl
closed_is s k batches.Unedited h e = absurd (cc)
closed_is s k (batches.Single edit near) h e =
    let none : ◌≡◌ {A = Option Draft} (Some (draft_of_edit edit h.0)) None = sym (single_draft s k edit near h.0 h.1) ∙ e in absurd (cc)
closed_is s k (batches.Drafted batch) h e = absurd (cc)

-- the copies of a batch of one edit
pub made_of : (s : SourceParts) (k : List Pair) (edit : Edit) (first now : Draft) → first ≡ record { source = s; pairs = k; keys = [] }
    → edited first.source first.pairs edit ≡ Ok (now.source, now.pairs) → now.keys ≡ first.keys ++ named edit
    → (made : SourceParts × List Pair) → edited s k edit ≡ Ok made → now ≡ draft_of_edit edit made
made_of s k edit first now is done more made e =
    let same : ◌≡◌ {A = Result (SourceParts × List Pair) Rule} (Ok (now.source, now.pairs)) (Ok made) = sym done ∙ ap (λ (d : Draft). edited d.source d.pairs edit) is ∙ e in
    let pair : ◌≡◌ {A = SourceParts × List Pair} (now.source, now.pairs) made = cc in
    let keys : now.keys ≡ named edit = more ∙ ap (λ (d : Draft). d.keys ++ named edit) is in
    λ j. record { source = (pair j).0; pairs = (pair j).1; keys = keys j }

-- ---- edits in a batch

-- the first edit of a batch is noted
pub single_drafts : (s : SourceParts) (k : List Pair) (old new : OpenBatch) (edit : Edit) → is_unedited old ≡ true → OpensWith edit s k (Ok new)
    → DraftsOn {T = Unit {0}} s k old edit (Ok tt) new
single_drafts s k batches.Closed new edit un opens = absurd (cc)
single_drafts s k (batches.Single first near) new edit un opens = absurd (cc)
single_drafts s k (batches.Drafted batch) new edit un opens = absurd (cc)
single_drafts s k batches.Unedited new edit un opens = record {
  is_open = subst (IsOpenOn s k) (sym opens.2.1) (opens.0, opens.1);
  drafts = λ was e. (draft_of_edit edit opens.0, ap (open_draft s k) opens.2.1 ∙ single_draft s k edit opens.2.0 opens.0 opens.1, made was e);
} where
  made : (was : Draft) → open_draft s k batches.Unedited ≡ Some was → Drafts {T = Unit {0}} was edit (Ok tt) (draft_of_edit edit opens.0)
  made was e =
      let first : ◌≡◌ {A = Draft} (record { source = s; pairs = k; keys = [] }) was = cc in
      subst (λ d. Drafts {T = Unit {0}} d edit (Ok tt) (draft_of_edit edit opens.0)) first (opens.1, refl)

-- an edit that is made once the first was made on copies
pub drafts_again : {T : Type 0} (s : SourceParts) (k : List Pair) (old mid new : OpenBatch) (edit : Edit) (r : Result T Cause) → open_draft s k mid ≡ open_draft s k old
    → DraftsOn s k mid edit r new → DraftsOn s k old edit r new
drafts_again s k old mid new edit r same h = record { is_open = h.is_open; drafts = λ was e. h.drafts was (same ∙ e) }

drafts-took : {T : Type 0} (old : SessionState) (was now : Draft) (edit : Edit) (r : Result T Cause) → Drafts was edit r now
    → Took (record old { batch = Some was }) (edit_in (Some was) (record old { batch = Some was }) edit) true (record old { batch = Some was }) r (record old { batch = Some now })
drafts-took old was now edit (Ok done) h =
    rw h.0 (refl, ap (λ (ks : List Key). record old { batch = Some (record { source = now.source; pairs = now.pairs; keys = ks }) }) h.1)
drafts-took old was now edit (Err (causes.Rule rule)) h = rw h.0 (refl, refl, ap (λ (d : Draft). record old { batch = Some d }) h.1)
drafts-took old was now edit (Err (causes.Fault fault)) h = absurd h
drafts-took old was now edit (Err causes.Memory) h = (refl, ap (λ (d : Draft). record old { batch = Some d }) h)

-- an edit goes into the batch that is open
pub drafts_take : {T : Type 0} (old : SessionState) (b new : OpenBatch) (edit : Edit) (r : Result T Cause) → is_some (open_draft old.source old.pairs b) ≡ true
    → DraftsOn old.source old.pairs b edit r new
    → TakesUnnoted (record old { batch = open_draft old.source old.pairs b }) (commands.Edit edit) r (record old { batch = open_draft old.source old.pairs new })
unfolding outcome
drafts_take old b new edit r some h =
    let was = some-of (open_draft old.source old.pairs b) some in
    let now = h.drafts was.0 was.1 in
    rw was.1 (rw now.1 (drafts-took old was.0 now.0 edit r now.2))

-- and makes no run
pub drafts_keep : {T : Type 0} (old new : SessionView) (edit : Edit) (r : Result T Cause) → is_some old.state.batch ≡ true → new.kept ≡ old.kept → new.runs ≡ old.runs
    → RerunsByTest (edition old.state (commands.Edit edit)) old r new
drafts_keep old new edit r some kept runs =
    let was = some-of old.state.batch some in
    subst (λ (b : Option Draft). RerunsByTest (edition_in b old.state (commands.Edit edit)) old r new) (sym was.1) (kept, runs)

-- ---- an edit that is taken

pub took_made : (old : SessionState) (made : SourceParts × List Pair) (source : SourceParts) (pairs : List Pair) (b : OpenBatch)
    → IsOpenOn old.source old.pairs b → open_draft old.source old.pairs b ≡ None → source_check made.0 ≡ Ok tt → source ≡ made.0 → pairs ≡ made.1
    → Took {T = Unit {0}} old (judged old made (source_check made.0)) true old (Ok tt) (record { source = source; pairs = pairs; batch = open_draft source pairs b; refused = old.refused })
took_made old made source pairs b is none checked same others =
    let closed : open_draft source pairs b ≡ None = ap (open_draft source pairs) (closed_is old.source old.pairs b is none) in
    rw checked (refl, λ j. record { source = same j; pairs = others j; batch = closed j; refused = old.refused })

pub closed_open : (s new : SourceParts) (k ps : List Pair) (b : OpenBatch) → IsOpenOn s k b → open_draft s k b ≡ None → IsOpenOn new ps b
closed_open s new k ps b is none = subst (IsOpenOn new ps) (sym (closed_is s k b is none)) tt

-- ---- a commit

took-mid : {T : Type 0} (old : SessionState) (made : SourceParts × List Pair) (check : Result (Unit {0}) Fault) (r : Result T Cause) (new : SessionState)
    → Took (without_batch old) (judged (without_batch old) made check) true (without_batch old) r new → Took old (judged old made check) true (without_batch old) r new
took-mid old made (Ok checked) (Ok done) new h = h
took-mid old made (Err f) (Ok done) new h = absurd (let told = h.0 in cc)
took-mid old made (Ok checked) (Err (causes.Rule rule)) new h = absurd (let told = h.0 in cc)
took-mid old made (Err f) (Err (causes.Rule rule)) new h = absurd (let told = h.0 in cc)
took-mid old made (Ok checked) (Err (causes.Fault fault)) new h = absurd (let told = h.0 in cc)
took-mid old made (Err f) (Err (causes.Fault fault)) new h = h
took-mid old made (Ok checked) (Err causes.Memory) new h = h
took-mid old made (Err f) (Err causes.Memory) new h = h

module _ {T : Type 0} (d : Draft) (old mid new : SessionView) (r : Result T Cause) (kept : Option Refused)
    (is : old.state.batch ≡ Some d) (state : mid.state ≡ without_batch old.state) (runs-kept : mid.kept ≡ old.kept) (count : mid.runs ≡ old.runs)
    (h : Commits d mid r kept new) where
  pub commit_takes : TakesUnnoted old.state commands.Commit r new.state
  unfolding outcome
  commit_takes =
      let took = subst (λ (s : SessionState). Took s (judged s (d.source, d.pairs) (source_check d.source)) true s r new.state) state h.took in
      subst (λ (b : Option Draft). Took old.state (commit_in b old.state) (is_some b) (without_batch old.state) r new.state) (sym is)
      (took-mid old.state (d.source, d.pairs) (source_check d.source) r new.state took)

  pub commit_refused : OnFault r (kept ≡ refused_batch old.state.batch)
  commit_refused = rw is h.faulty

  pub commit_reruns : RerunsByTest (edition old.state commands.Commit) old r new
  commit_reruns =
      subst (λ e. RerunsByTest e old r new) (sym (ap (λ b. edition_in b old.state commands.Commit) is))
      (batch_reruns (record { keys = d.keys; source = d.source }) old mid new r (sym (ap (λ (s : SessionState). s.source) state)) (sym runs-kept) (sym count) h.runs)

-- ---- a commit of one edit

module _ (edit : Edit) (made : SourceParts × List Pair) (old new : SessionView) (none : old.state.batch ≡ None)
    (e : edited old.state.source old.state.pairs edit ≡ Ok made) where
  single-outcome : outcome old.state (commands.Edit edit) ≡ judged old.state made (source_check made.0)
  unfolding outcome
  single-outcome = ap (λ b. edit_in b old.state edit) none ∙ ap (taken old.state) e

  pub single_taken : (T : Type 0) (r : Result T Cause) → TakesUnnoted old.state (commands.Edit edit) r new.state
      → Took old.state (judged old.state made (source_check made.0)) true old.state r new.state
  single_taken T r h = subst (λ (p : Performed SessionState). Took old.state p true old.state r new.state) single-outcome h

  pub single_reruns : (T : Type 0) (r : Result T Cause) → RerunsByTest (edition old.state (commands.Edit edit)) old r new
      → RerunsByTest (Some (record { keys = named edit; source = made.0 })) old r new
  single_reruns T r h =
      subst (λ o. RerunsByTest o old r new)
      (ap (λ b. edition_in b old.state (commands.Edit edit)) none
      ∙ ap (λ (r : Result (SourceParts × List Pair) Rule). option_map (λ made. record { keys = named edit; source = made.0 }) (result_ok r)) e) h

wanting : (old new : SessionState) (made : SourceParts × List Pair) (check : Result (Unit {0}) Fault) (cause : Cause) → old.batch ≡ None
    → Took {T = Unit {0}} old (judged old made check) true old (Err cause) new → new ≡ old
wanting old new made check (causes.Rule rule) none h = h.2
wanting old new made (Ok checked) (causes.Fault fault) none h = absurd (let told = h.0 in cc)
wanting old new made (Err f) (causes.Fault fault) none h = h.1 ∙ sym (stays_alone old none)
wanting old new made check causes.Memory none h = h.1

-- an edit that is refused can still be made
pub single_unmade : (edit : Edit) (made : SourceParts × List Pair) (old new : SessionView) (cause : Cause) → old.state.batch ≡ None
    → edited old.state.source old.state.pairs edit ≡ Ok made → TakesUnnoted {T = Unit {0}} old.state (commands.Edit edit) (Err cause) new.state
    → edited new.state.source new.state.pairs edit ≡ Ok made
single_unmade edit made old new cause none e takes =
    subst (λ (s : SessionState). edited s.source s.pairs edit ≡ Ok made)
    (sym (wanting old.state new.state made (source_check made.0) cause none (single_taken edit made old new none e (Unit {0}) (Err cause) takes))) e

pub single_done : (edit : Edit) (made : SourceParts × List Pair) (old new : SessionView) → old.state.batch ≡ None
    → edited old.state.source old.state.pairs edit ≡ Ok made
    → TakesUnnoted {T = Unit {0}} old.state (commands.Edit edit) (Ok tt) new.state → RerunsByTest {T = Unit {0}} (edition old.state (commands.Edit edit)) old (Ok tt) new
    → Commits {T = Unit {0}} (draft_of_edit edit made) old (Ok tt) None new
single_done edit made old new none e takes reruns = record {
  took = single_taken edit made old new none e (Unit {0}) (Ok tt) takes;
  faulty = tt {0};
  runs = single_reruns edit made old new none e (Unit {0}) (Ok tt) reruns;
}

pub single_refused : (edit : Edit) (made : SourceParts × List Pair) (old new : SessionView) (cause given : Cause) (kept : Option Refused) → old.state.batch ≡ None
    → edited old.state.source old.state.pairs edit ≡ Ok made
    → TakesUnnoted {T = Unit {0}} old.state (commands.Edit edit) (Err cause) new.state
    → RerunsByTest {T = Unit {0}} (edition old.state (commands.Edit edit)) old (Err cause) new
    → RefusesSingle made.0 cause given kept
    → Commits {T = Unit {0}} (draft_of_edit edit made) old (Err given) kept new
single_refused edit made old new cause given kept none e takes reruns told = record {
  took = took;
  faulty = told.faulty;
  runs = spent;
} where
  was : Took {T = Unit {0}} old.state (judged old.state made (source_check made.0)) true old.state (Err cause) new.state
  was = single_taken edit made old new none e (Unit {0}) (Err cause) takes

  took : Took {T = Unit {0}} old.state (judged old.state made (source_check made.0)) true old.state (Err given) new.state
  took = elim told.same [
    | inl same ↦ subst (λ (c : Cause). Took {T = Unit {0}} old.state (judged old.state made (source_check made.0)) true old.state (Err c) new.state) (sym same) was
    | inr memory ↦ subst (λ (c : Cause). Took {T = Unit {0}} old.state (judged old.state made (source_check made.0)) true old.state (Err c) new.state) (sym memory)
        (refl, wanting old.state new.state made (source_check made.0) cause none was)
  ]

  spent : RerunsByTest {T = Unit {0}} (Some (record { keys = named edit; source = made.0 })) old (Err given) new
  spent = single_reruns edit made old new none e (Unit {0}) (Err cause) reruns

-- ---- a session in which a batch is opened, edited or closed

pub begins_none : (old : SessionState) → is_some old.batch ≡ false
    → TakesUnnoted {T = Unit {0}} old commands.Begin (Ok tt) (record old { batch = Some (record { source = old.source; pairs = old.pairs; keys = [] }) })
unfolding outcome
begins_none old e = let none = none-of old.batch e in rw none (refl, refl)
