use Rattle.std.proofs.Common.{◌≡◌, ap, map, rules, subst, sym, ◌∙◌}
use Rattle.t1_cache.specs.Recorded.{kept_of}
use Rattle.t1_session.specs.declared.open_batch.OpenBatch.{OpenBatch}
use Rattle.t1_session.specs.declared.open_batch.OpenBatch.TheVariants as batches
use Rattle.t1_session.specs.Machine.{without_batch}
use Rattle.t1_session.specs.OpenBatch.{draft_of_edit, open_draft, IsOpenOn}
use Rattle.t1_session.specs.State.{SessionView, SessionState}
use Rattle.t1_session.specs.Users.{user_table}
use Rattle.t1_session.proofs.BatchLaws.{commit_reruns, commit_takes, single_draft}
use Rattle.t1_session.proofs.session.Session.close_batch.Goals as goal

pub returns-in-Single-clause-takes : goal.returns-in-Single-clause-takes
returns-in-Single-clause-takes c =
    let s = c.self.inside in
    let now = c.args.self.now in
    let is = c.self.view_is in
    let edit = c.in-Single.edit in
    let had : s.batch ≡ batches.Single edit c.in-Single._near = search rules in
    let made = subst (IsOpenOn s.source s.pairs) had c.self.invariant.1 in
    let closed : c.replace.new.dest ≡ batches.Closed = search rules in
    let state-of : OpenBatch → SessionState = λ b. record { source = s.source; pairs = s.pairs; batch = open_draft s.source s.pairs b; refused = s.refused } in
    let taken : SessionView = record {
      state = state-of c.replace.new.dest;
      kept = map kept_of s.held.records.glyphs.entries;
      users = user_table s.held.records;
      runs = s.meter;
    } in
    commit_takes (draft_of_edit edit made.0) now taken c.commit_single.new.self c.commit_single.result.0 c.commit_single.result.1
    (ap (λ (v : SessionView). v.state.batch) (sym is) ∙ ap (open_draft s.source s.pairs) had ∙ single_draft s.source s.pairs edit c.in-Single._near made.0 made.1)
    (ap state-of closed ∙ ap (λ (v : SessionView). without_batch v.state) is) (ap (λ (v : SessionView). v.kept) is) (ap (λ (v : SessionView). v.runs) is)
    (c.commit_single.ensures made.0 made.1)

pub returns-in-Single-clause-runs : goal.returns-in-Single-clause-runs
returns-in-Single-clause-runs c =
    let s = c.self.inside in
    let now = c.args.self.now in
    let is = c.self.view_is in
    let edit = c.in-Single.edit in
    let had : s.batch ≡ batches.Single edit c.in-Single._near = search rules in
    let made = subst (IsOpenOn s.source s.pairs) had c.self.invariant.1 in
    let closed : c.replace.new.dest ≡ batches.Closed = search rules in
    let state-of : OpenBatch → SessionState = λ b. record { source = s.source; pairs = s.pairs; batch = open_draft s.source s.pairs b; refused = s.refused } in
    let taken : SessionView = record {
      state = state-of c.replace.new.dest;
      kept = map kept_of s.held.records.glyphs.entries;
      users = user_table s.held.records;
      runs = s.meter;
    } in
    commit_reruns (draft_of_edit edit made.0) now taken c.commit_single.new.self c.commit_single.result.0 c.commit_single.result.1
    (ap (λ (v : SessionView). v.state.batch) (sym is) ∙ ap (open_draft s.source s.pairs) had ∙ single_draft s.source s.pairs edit c.in-Single._near made.0 made.1)
    (ap state-of closed ∙ ap (λ (v : SessionView). without_batch v.state) is) (ap (λ (v : SessionView). v.kept) is) (ap (λ (v : SessionView). v.runs) is)
    (c.commit_single.ensures made.0 made.1)

pub returns-in-Drafted-clause-runs : goal.returns-in-Drafted-clause-runs
returns-in-Drafted-clause-runs c =
    let s = c.self.inside in
    let now = c.args.self.now in
    let is = c.self.view_is in
    let had : s.batch ≡ batches.Drafted c.in-Drafted.batch = search rules in
    let closed : c.replace.new.dest ≡ batches.Closed = search rules in
    let state-of : OpenBatch → SessionState = λ b. record { source = s.source; pairs = s.pairs; batch = open_draft s.source s.pairs b; refused = s.refused } in
    let taken : SessionView = record {
      state = state-of c.replace.new.dest;
      kept = map kept_of s.held.records.glyphs.entries;
      users = user_table s.held.records;
      runs = s.meter;
    } in
    commit_reruns c.in-Drafted.batch.draft now taken c.commit_drafted.new.self c.commit_drafted.result.0 c.commit_drafted.result.1
    (ap (λ (v : SessionView). v.state.batch) (sym is) ∙ ap (open_draft s.source s.pairs) had)
    (ap state-of closed ∙ ap (λ (v : SessionView). without_batch v.state) is) (ap (λ (v : SessionView). v.kept) is) (ap (λ (v : SessionView). v.runs) is)
    c.commit_drafted.ensures
