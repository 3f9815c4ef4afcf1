use Rattle.std.proofs.Common.{◌+◌, ◌∙◌, ap, sym, subst}
use Rattle.std.specs.Option.{option_copied}
use Rattle.t1_run.specs.Machine.{state_of}
use Rattle.t1_run.specs.Run.{font}
use Rattle.t1_chain.specs.Failing.{followed_within, words_from}
use Rattle.t1_chain.specs.Machine.{Acts, MayEnter, ending_or}
use Rattle.t1_chain.proofs.FollowingLaws.{count-next, left-called, left-next, left-over}
use Rattle.t1_chain.proofs.following.+follow.Goals as goal

pub words-preserved-in-Word : goal.words-preserved-in-Word
words-preserved-in-Word g t c =
    let m = font (g.B.Bodies.subrs c.args.bodies.now) (g.B.Bodies.glyphs c.args.bodies.now) in
    let before = state_of c.words.state in
    let after = state_of c.follow_word.new.state in
    let acts = subst (λ a. Acts m c.args.levels c.words.next c.in-Some.command.now a before after) c.in-Word.is c.in_ok-asked.ensures.acts in
    record {
      same =
          left-next m c.args.levels c.args.body.now (state_of c.args.state.now) c.words.next c.in-Some.command.now c.words.rest.now c.in-Some.tail.now before after
          c.words.invariant.same c.in-Some.ensures.cases.0 acts;
      count = count-next c.words.next _ c.in-Some.command.now c.words.rest.now c.in-Some.tail.now c.words.invariant.count c.in-Some.ensures.cases.0;
    }

pub returns-in-Over : goal.returns-in-Over
returns-in-Over g t c =
    let m = font (g.B.Bodies.subrs c.args.bodies.now) (g.B.Bodies.glyphs c.args.bodies.now) in
    let before = state_of c.words.state in
    let after = state_of c.follow_word.new.state in
    let acts = subst (λ a. Acts m c.args.levels c.words.next c.in-Some.command.now a before after) c.in-Over.is c.in_ok-asked.ensures.acts in
    left-over m c.args.levels c.args.body.now (state_of c.args.state.now) c.words.next c.in-Some.command.now c.words.rest.now c.in-Some.tail.now before after
    c.in-Over.ending c.words.invariant.same c.in-Some.ensures.cases.0 acts

pub returns-in-Some-2 : goal.returns-in-Some-2
returns-in-Some-2 g t c =
    let m = font (g.B.Bodies.subrs c.args.bodies.now) (g.B.Bodies.glyphs c.args.bodies.now) in
    let before = state_of c.words.state in
    let after = state_of c.follow_word.new.state in
    let acts = subst (λ a. Acts m c.args.levels c.words.next c.in-Some.command.now a before after) c.in-Subr.is c.in_ok-asked.ensures.acts in
    let may = subst (MayEnter c.args.levels m.subrs) c.in-Subr.is c.in_ok-asked.ensures.entered in
    left-called m c.args.levels c.args.body.now (state_of c.args.state.now) c.words.next c.in-Some.command.now c.words.rest.now c.in-Some.tail.now before after
    (state_of c.enter.new.self) (state_of c.follow.new.state) c.in-Subr.subr c.in-Some-subr.called.now c.in_ok-ending-in-Subr.ending c.in_ok-ending-in-Subr-2.field-0
    c.words.invariant.same c.in-Some.ensures.cases.0 acts may.0 (sym c.subr.ensures ∙ ap option_copied c.in-Some-subr.is) c.in_ok-enter-in-Subr.ensures.entered
    c.in_ok-ending-in-Subr.ensures c.in_ok-ending-in-Subr-2.ensures
    ∙ ap (λ left. ending_or (words_from m (followed_within m c.args.levels) (c.words.next + 1) c.in-Some.tail.now) left (state_of c.follow.new.state)) c.in-Some-2.is

pub words-preserved : goal.words-preserved
words-preserved g t c =
    let m = font (g.B.Bodies.subrs c.args.bodies.now) (g.B.Bodies.glyphs c.args.bodies.now) in
    let before = state_of c.words.state in
    let after = state_of c.follow_word.new.state in
    let acts = subst (λ a. Acts m c.args.levels c.words.next c.in-Some.command.now a before after) c.in-Subr.is c.in_ok-asked.ensures.acts in
    let may = subst (MayEnter c.args.levels m.subrs) c.in-Subr.is c.in_ok-asked.ensures.entered in
    record {
      same =
          sym (left-called m c.args.levels c.args.body.now (state_of c.args.state.now) c.words.next c.in-Some.command.now c.words.rest.now c.in-Some.tail.now before after
          (state_of c.enter.new.self) (state_of c.follow.new.state) c.in-Subr.subr c.in-Some-subr.called.now c.in_ok-ending-in-Subr.ending c.in_ok-ending-in-Subr-2.field-0
          c.words.invariant.same c.in-Some.ensures.cases.0 acts may.0 (sym c.subr.ensures ∙ ap option_copied c.in-Some-subr.is) c.in_ok-enter-in-Subr.ensures.entered
          c.in_ok-ending-in-Subr.ensures c.in_ok-ending-in-Subr-2.ensures
          ∙ ap (λ left. ending_or (words_from m (followed_within m c.args.levels) (c.words.next + 1) c.in-Some.tail.now) left (state_of c.follow.new.state)) c.in_default-2.is);
      count = count-next c.words.next _ c.in-Some.command.now c.words.rest.now c.in-Some.tail.now c.words.invariant.count c.in-Some.ensures.cases.0;
    }
