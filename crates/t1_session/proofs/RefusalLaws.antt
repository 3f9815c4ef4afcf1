-- What is kept of a refusal.
use Rattle.std.proofs.Common.{◌≡◌, ◌≤◌, Bool, true, false, length, Option, Some, None, Result, Ok, Err, refl, ap, subst, sym, ◌∙◌}
use Rattle.std.specs.List.{AllByRecursion}
use Rattle.std.specs.Prelude.{is_some, not}
use Rattle.t1_frac.specs.declared.fault.Refusal.{Refusal}
use Rattle.t1_frac.specs.declared.fault.Refusal.TheVariants as refusals
use Rattle.t1_parts.specs.SourceParts.{SourceParts}
use Rattle.t1_source.specs.declared.edit.Cause.{Cause}
use Rattle.t1_source.specs.declared.edit.Cause.TheVariants as causes
use Rattle.t1_source.specs.declared.edit.Edit.{Edit}
use Rattle.t1_commands.specs.declared.answer.Answer.{Answer}
use Rattle.t1_commands.specs.declared.command.SessionCommand.TheVariants as commands
use Rattle.t1_commands.specs.Answers.{Performed}
use Rattle.t1_session.specs.declared.refused.Refused.{Refused}
use Rattle.t1_session.specs.declared.refused.Refused.TheVariants as kinds
use Rattle.t1_session.specs.Machine.{without_batch, keeping, refusal_kept, outcome, perform, refused_batch}
use Rattle.t1_session.specs.Outcomes.{Takes, TookNoted, refused_source}
use Rattle.t1_session.specs.Unnoted.{TakesUnnoted, Took, faulty_batch, with_refused}
use Rattle.t1_session.specs.KeptRefusals.{refused_after, OnFault}
use Rattle.t1_font.specs.RunCounts.{counted}
use Rattle.t1_cache.specs.Edited.{stale}
use Rattle.t1_rerun.specs.Renewing.{IsRunWhereStale}
use Rattle.t1_session.specs.Reruns.{Edition, Reruns}
use Rattle.t1_session.specs.RerunsByTest.{RerunsByTest}
use Rattle.t1_session.specs.State.{SessionView, SessionState}

-- a state with this kept of a refusal
abbrev told : SessionState → Option Refused → SessionState
told s kept = record s { refused = kept }

answered : (faulty : Option Refused) (p : Performed SessionState) (a : Answer) → p.answer ≡ a → told p.next (refusal_kept faulty p.next.refused a) ≡ (keeping faulty p).next
answered faulty p a is = ap (λ (x : Answer). told p.next (refusal_kept faulty p.next.refused x)) (sym is)

pub took_noted : {T : Type 0} (old mid new : SessionState) (p : Performed SessionState) (may : Bool) (want : SessionState) (faulty : Option Refused) (r : Result T Cause)
    → Took old p may want r mid → new ≡ record mid { refused = refused_after faulty mid.refused r } → TookNoted old (keeping faulty p) may want r new
took_noted old mid new p may want faulty (Ok done) h is =
    (h.0, is ∙ ap (λ s. told s None) h.1 ∙ answered faulty p _ h.0)
took_noted old mid new p may want faulty (Err (causes.Rule rule)) h is =
    let noted = is ∙ ap (λ s. told s (Some (kinds.Rule rule))) h.2 in
    (h.0, noted ∙ sym (ap (λ s. told s (Some (kinds.Rule rule))) h.1) ∙ answered faulty p _ h.0, noted)
took_noted old mid new p may want faulty (Err (causes.Fault fault)) h is =
    (h.0, is ∙ ap (λ s. told s faulty) h.1 ∙ answered faulty p _ h.0)
took_noted old mid new p may want faulty (Err causes.Memory) h is = (h.0, is ∙ h.1)

-- ---- the calls

module _ {T : Type 0} (old mid new : SessionState) where
  pub edit_takes : (edit : Edit) (r : Result T Cause) → TakesUnnoted old (commands.Edit edit) r mid
      → new ≡ record mid { refused = refused_after (Some (kinds.Edit edit)) mid.refused r } → Takes old (commands.Edit edit) r new
  unfolding perform
  edit_takes edit r h is = took_noted old mid new (outcome old (commands.Edit edit)) true old (Some (kinds.Edit edit)) r h is

  pub begin_takes : (r : Result T Cause) → TakesUnnoted old commands.Begin r mid → new ≡ record mid { refused = refused_after None mid.refused r } → Takes old commands.Begin r new
  unfolding perform
  begin_takes r h is = took_noted old mid new (outcome old commands.Begin) (not (is_some old.batch)) old None r h is

  pub abort_takes : (r : Result T Cause) → TakesUnnoted old commands.Abort r mid → new ≡ record mid { refused = refused_after None mid.refused r } → Takes old commands.Abort r new
  unfolding perform
  abort_takes r h is = took_noted old mid new (outcome old commands.Abort) false old None r h is

  given-fault : (given faulty : Option Refused) (r : Result T Cause) → OnFault r (given ≡ faulty)
      → record mid { refused = refused_after given mid.refused r } ≡ record mid { refused = refused_after faulty mid.refused r }
  given-fault given faulty (Ok done) h = refl
  given-fault given faulty (Err (causes.Rule rule)) h = refl
  given-fault given faulty (Err (causes.Fault fault)) h = ap (told mid) h
  given-fault given faulty (Err causes.Memory) h = refl

  pub commit_takes : (given : Option Refused) (r : Result T Cause) → TakesUnnoted old commands.Commit r mid → OnFault r (given ≡ refused_batch old.batch)
      → new ≡ record mid { refused = refused_after given mid.refused r } → Takes old commands.Commit r new
  unfolding perform
  commit_takes given r h faulty is =
      took_noted old mid new (outcome old commands.Commit) (is_some old.batch) (without_batch old) (refused_batch old.batch) r h (is ∙ given-fault given (refused_batch old.batch) r faulty)

-- a batch whose source has a fault
pub batch_faulty : (refusal : Refusal) (made : SourceParts) (cause : Cause) (kept : Option Refused) → cause ≡ refused_source refusal → kept ≡ faulty_batch refusal made
    → OnFault {T = Unit {0}} (Err cause) (kept ≡ Some (kinds.Batch made))
batch_faulty refusals.Memory made cause kept is given = rw is tt
batch_faulty (refusals.Fault fault) made cause kept is given = rw is given

-- what is kept of runs stays
pub reruns_noted : {T : Type 0} (e : Option Edition) (old mid : SessionView) (kept : Option Refused) (r : Result T Cause) → Reruns e old r mid → Reruns e old r (with_refused mid kept)
reruns_noted None old mid kept r h = h
reruns_noted (Some e) old mid kept (Ok done) h = record { stale = h.stale; runs = h.runs; each = h.each }
reruns_noted (Some e) old mid kept (Err cause) h = record { stale = h.stale; kept = h.kept; made = h.made; at_most = h.at_most; count = h.count }

-- a batch that is taken out changes nothing of what is kept of runs
pub batch_reruns : {T : Type 0} (e : Edition) (old taken new : SessionView) (r : Result T Cause) → old.state.source ≡ taken.state.source → old.kept ≡ taken.kept → old.runs ≡ taken.runs
    → RerunsByTest (Some e) taken r new → RerunsByTest (Some e) old r new
batch_reruns e old taken new (Ok done) source kept runs h = record {
  runs = h.runs ∙ ap (λ s. counted taken.runs (length (stale s e.keys e.source))) (sym source) ∙ ap (λ n. counted n (length (stale old.state.source e.keys e.source))) (sym runs);
  each =
      subst (λ s. AllByRecursion (IsRunWhereStale old.runs e.keys s old.kept) new.kept) (sym source)
      (subst (λ k. AllByRecursion (IsRunWhereStale old.runs e.keys taken.state.source k) new.kept) (sym kept)
      (subst (λ n. AllByRecursion (IsRunWhereStale n e.keys taken.state.source taken.kept) new.kept) (sym runs) h.each));
}
batch_reruns e old taken new (Err cause) source kept runs h = record {
  kept = h.kept ∙ sym kept;
  made = h.made;
  at_most = subst (λ s. h.made ≤ length (stale s e.keys e.source)) (sym source) h.at_most;
  count = h.count ∙ ap (λ n. counted n h.made) (sym runs);
}
