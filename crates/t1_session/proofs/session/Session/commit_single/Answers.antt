use Rattle.std.proofs.Common.{◌≡◌, Ok, subst, sym}
use Rattle.t1_source.specs.Editing.{edited}
use Rattle.t1_session.specs.State.{SessionView}
use Rattle.t1_session.proofs.BatchLaws.{single_done, single_refused, single_unmade}
use Rattle.t1_session.proofs.session.Session.commit_single.Goals as goal

pub returns-in-Err : goal.returns-in-Err
returns-in-Err c made e =
    let edit = c.args.edit.now in
    let old = c.args.self.now in
    let new = c.take.new.self in
    let cause = c.in-Err.cause in
    let again = single_unmade edit made old new cause c.requires.none e c.in-Err.ensures.takes in
    single_refused edit made old new cause c.refused_single-cause.result.0 c.refused_single-cause.result.1 c.requires.none e c.in-Err.ensures.takes c.in-Err.ensures.runs
    (c.refused_single-cause.ensures made (subst (λ (v : SessionView). edited v.state.source v.state.pairs edit ≡ Ok made) (sym c.self.view_is) again))

pub returns : goal.returns
returns c made e = single_done c.args.edit.now made c.args.self.now c.take.new.self c.requires.none e c.in_default.ensures.takes c.in_default.ensures.runs
