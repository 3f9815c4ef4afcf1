use Rattle.std.proofs.Common.{rules, ◌≡◌, ◌∙◌, sym, ◌∷◌, [], ◌+◌, ◌-◌, ◌<◌, length, ap, arith}
use Rattle.std.proofs.lemmas.List.{nil_from_length}
use Rattle.t1_frac.specs.Fraction.{whole}
use Rattle.t1_run.specs.Pushing.{numbers_at_front}
use Rattle.t1_run.proofs.Pushing.{front_none, front_past, front_other, front_left, stored_end, counted_end, stored_more, counted_more, rest_more}
use Rattle.t1_run.proofs.operands.store_numbers.Goals as goal

pub returns-in_default-clause-count : goal.returns-in_default-clause-count
returns-in_default-clause-count c =
    let none : c.loop-count.rest.now ≡ [] = nil_from_length _ c.in_default.ensures.cases in
    let n = c.args.most - c.loop-count.count in
    counted_end _ _ _ c.loop-count.invariant.count (ap (numbers_at_front n) none ∙ front_none n)

pub returns-in_default-clause-stored : goal.returns-in_default-clause-stored
returns-in_default-clause-stored c =
    let none : c.loop-count.rest.now ≡ [] = nil_from_length _ c.in_default.ensures.cases in
    let n = c.args.most - c.loop-count.count in
    stored_end _ _ _ c.loop-count.invariant.stored (ap (numbers_at_front n) none ∙ front_none n)

pub returns-in_default-command-clause-count : goal.returns-in_default-command-clause-count
returns-in_default-command-clause-count c =
    let n = c.args.most - c.loop-count.count in
    counted_end _ _ _ c.loop-count.invariant.count (ap (numbers_at_front n) c.in-Some.ensures.cases.0 ∙ front_other n c.in-Some.command.now c.in-Some.tail.now c.in_default-command.not-Num)

pub returns-in_default-command-clause-stored : goal.returns-in_default-command-clause-stored
returns-in_default-command-clause-stored c =
    let n = c.args.most - c.loop-count.count in
    stored_end _ _ _ c.loop-count.invariant.stored (ap (numbers_at_front n) c.in-Some.ensures.cases.0 ∙ front_other n c.in-Some.command.now c.in-Some.tail.now c.in_default-command.not-Num)

pub loop-count-preserved : goal.loop-count-preserved
loop-count-preserved c =
    let left = front_left c.args.most c.loop-count.count c.in-Num.number c.loop-count.rest.now c.in-Some.command.now c.in-Some.tail.now c.loop-count-test.true c.in-Some.ensures.cases.0 c.in-Num.is in
    let value : c.whole.result ≡ whole c.in-Num.number = search rules in
    let stored = left ∙ ap (λ x. x ∷ numbers_at_front (c.args.most - (c.loop-count.count + 1)) c.in-Some.tail.now) (sym value) in
    let within : c.args.place + c.loop-count.count < length c.loop-count.values = search rules in
    record {
      few = omega (arith, c.loop-count-test.true);
      rest = rest_more c.loop-count.count c.args.commands.now _ _ _ c.loop-count.invariant.rest c.in-Some.ensures.cases.0;
      count = counted_more _ _ _ _ _ left c.loop-count.invariant.count;
      stored = stored_more _ _ _ c.whole.result _ _ _ within stored c.loop-count.invariant.stored;
    }

pub returns-clause-count : goal.returns-clause-count
returns-clause-count c =
    let past : c.args.most - c.loop-count.count ≡ 0 = search rules in
    counted_end _ _ _ c.loop-count.invariant.count (front_past _ c.loop-count.rest.now past)

pub returns-clause-stored : goal.returns-clause-stored
returns-clause-stored c =
    let past : c.args.most - c.loop-count.count ≡ 0 = search rules in
    stored_end _ _ _ c.loop-count.invariant.stored (front_past _ c.loop-count.rest.now past)
