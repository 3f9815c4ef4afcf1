use Rattle.std.proofs.Common.{None, Result, ap, refl, subst, sym, true}
use Rattle.t1_source.specs.declared.edit.Cause.{Cause}
use Rattle.t1_commands.specs.declared.command.SessionCommand.TheVariants as commands
use Rattle.t1_session.specs.Machine.{keeping, outcome}
use Rattle.t1_session.specs.Outcomes.{TookNoted}
use Rattle.t1_session.specs.Records.{AreFromScratch}
use Rattle.t1_session.specs.KeptRefusals.{refused_after}
use Rattle.t1_session.specs.Reruns.{edition, Reruns}
use Rattle.t1_session.specs.State.{SessionView}
use Rattle.t1_session.specs.Users.{AreUsers}
use Rattle.t1_session.proofs.ClosureLaws.{reruns}
use Rattle.t1_session.proofs.RefusalLaws.{reruns_noted, took_noted}
use Rattle.t1_session.proofs.session.Session.try_apply.Goals as goal

pub returns-in-Ok-clause-takes : goal.returns-in-Ok-clause-takes
returns-in-Ok-clause-takes c =
    let old = c.args.self.now.state in
    let p = outcome old (commands.Edit c.args.edit) in
    let took = subst (λ (r : Result (Unit {0}) Cause). TookNoted old (keeping None p) true old r c.keep.new.self.state) c.in-Ok.is
    (took_noted old c.take-taken.new.self.state c.keep.new.self.state p true old None c.take-taken.result c.take-taken.ensures.takes (ap (λ (v : SessionView). v.state) c.keep.ensures)) in
    took

pub returns-in-Ok-clause-right : goal.returns-in-Ok-clause-right
returns-in-Ok-clause-right c = subst (λ (v : SessionView). AreFromScratch v.state.source v.kept) (sym c.keep.ensures) c.records_are_right.ensures

pub returns-in-Ok-clause-users : goal.returns-in-Ok-clause-users
returns-in-Ok-clause-users c = subst (λ (v : SessionView). AreUsers v.state.source v.users) (sym c.keep.ensures) c.users_are_right.ensures

pub returns-in-Ok-clause-runs : goal.returns-in-Ok-clause-runs
returns-in-Ok-clause-runs c =
    let e = edition c.args.self.now.state (commands.Edit c.args.edit) in
    let now = c.args.self.now in
    let mid = c.take-taken.new.self in
    let kept = refused_after None mid.state.refused c.take-taken.result in
    let noted = reruns_noted e now mid kept c.take-taken.result (reruns e now mid c.take-taken.result c.reads_back.ensures.faultless c.take-taken.ensures.runs) in
    subst (λ (r : Result (Unit {0}) Cause). Reruns e now r c.keep.new.self) c.in-Ok.is
    (subst (λ (v : SessionView). Reruns e now c.take-taken.result v) (sym c.keep.ensures) noted)

pub returns-in-Err-clause-takes : goal.returns-in-Err-clause-takes
returns-in-Err-clause-takes c =
    let old = c.args.self.now.state in
    let p = outcome old (commands.Edit c.args.edit) in
    let took = subst (λ (r : Result (Unit {0}) Cause). TookNoted old (keeping None p) true old r c.keep.new.self.state) c.in-Err.is
    (took_noted old c.take-taken.new.self.state c.keep.new.self.state p true old None c.take-taken.result c.take-taken.ensures.takes (ap (λ (v : SessionView). v.state) c.keep.ensures)) in
    (took, refl)

pub returns-in-Err-clause-right : goal.returns-in-Err-clause-right
returns-in-Err-clause-right c = subst (λ (v : SessionView). AreFromScratch v.state.source v.kept) (sym c.keep.ensures) c.records_are_right.ensures

pub returns-in-Err-clause-users : goal.returns-in-Err-clause-users
returns-in-Err-clause-users c = subst (λ (v : SessionView). AreUsers v.state.source v.users) (sym c.keep.ensures) c.users_are_right.ensures

pub returns-in-Err-clause-runs : goal.returns-in-Err-clause-runs
returns-in-Err-clause-runs c =
    let e = edition c.args.self.now.state (commands.Edit c.args.edit) in
    let now = c.args.self.now in
    let mid = c.take-taken.new.self in
    let kept = refused_after None mid.state.refused c.take-taken.result in
    let noted = reruns_noted e now mid kept c.take-taken.result (reruns e now mid c.take-taken.result c.reads_back.ensures.faultless c.take-taken.ensures.runs) in
    subst (λ (r : Result (Unit {0}) Cause). Reruns e now r c.keep.new.self) c.in-Err.is
    (subst (λ (v : SessionView). Reruns e now c.take-taken.result v) (sym c.keep.ensures) noted)
