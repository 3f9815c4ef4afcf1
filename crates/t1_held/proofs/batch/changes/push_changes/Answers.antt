use Rattle.std.proofs.Common.{◌∙◌, ◌++◌, ap, sym}
use Rattle.std.specs.Option.{option_to_list}
use Rattle.std.proofs.lemmas.List.{append-nil}
use Rattle.t1_held.specs.Noting.{after_taken, all_taken, kept_at}
use Rattle.t1_held.proofs.Noting.{left-more, none-left, taken-more}
use Rattle.t1_held.proofs.batch.changes.push_changes.Goals as goal

pub loop-named-preserved-in-Continue-1 : goal.loop-named-preserved-in-Continue-1
loop-named-preserved-in-Continue-1 c =
    let d = c.in-Some.named in
    let rest = c.next.new.self.rest.items in
    let old = kept_at c.loop-named.bodies in
    let new = kept_at c.taken_change.new.bodies in
    let done = c.loop-named.changes.items in
    let was = c.loop-named.invariant in
    let reported = c.taken_change.ensures in
    let split = c.in-Some.ensures.steps.0 in
    record {
      pushed =
          was.pushed
          ∙ ap (λ l. done ++ all_taken old c.args.moved l) split
          ∙ taken-more c.args.moved d rest old new done c.push.new.self.items c.taken_change.result reported.change reported.others
          (c.in_ok-push.ensures.items ∙ ap (λ r. done ++ option_to_list r) (sym c.in-Some-taken_change.is));
      left = λ k. left-more d rest old new reported.others k ∙ ap (λ l. after_taken l old k) (sym split) ∙ was.left k;
    }

pub loop-named-preserved : goal.loop-named-preserved
loop-named-preserved c =
    let d = c.in-Some.named in
    let rest = c.next.new.self.rest.items in
    let old = kept_at c.loop-named.bodies in
    let new = kept_at c.taken_change.new.bodies in
    let done = c.loop-named.changes.items in
    let was = c.loop-named.invariant in
    let reported = c.taken_change.ensures in
    let split = c.in-Some.ensures.steps.0 in
    record {
      pushed =
          was.pushed
          ∙ ap (λ l. done ++ all_taken old c.args.moved l) split
          ∙ taken-more c.args.moved d rest old new done done c.taken_change.result reported.change reported.others
          (sym (append-nil done) ∙ ap (λ r. done ++ option_to_list r) (sym c.in_default.is));
      left = λ k. left-more d rest old new reported.others k ∙ ap (λ l. after_taken l old k) (sym split) ∙ was.left k;
    }

pub returns-clause-left : goal.returns-clause-left
returns-clause-left c = λ k.
    sym (ap (λ l. after_taken l (kept_at c.loop-named.bodies) k) (none-left c.loop-named.named-iterator.rest.items (sym c.loop-named.named-iterator.rest.ok.0 ∙ c.in-None.ensures.steps.0))) ∙ c.loop-named.invariant.left k
