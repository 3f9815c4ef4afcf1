use Rattle.std.proofs.Common.{List, Option, Some, Ok, ◌≡◌, [], length, sym, ◌∙◌, ap, subst, ◌<◌, rules, refl}
use Rattle.std.specs.Borrow.{Bor}
use Rattle.std.specs.Option.{option_copied}
use Rattle.std.proofs.lemmas.Result.{err_from_is_err_and}
use Rattle.t1_frac.specs.Outcome.{reported_at}
use Rattle.t1_frac.specs.declared.fault.Place.TheVariants.{Nowhere}
use Rattle.t1_frac.proofs.OutcomeLaws.{reported_ok}
use Rattle.t1_code.specs.declared.command.Command.{Command}
use Rattle.t1_run.specs.Continuing.{Comes}
use Rattle.t1_run.specs.Run.{font}
use Rattle.t1_run.proofs.Continuing.{asks_for, lacking, at_waiting, Continues-start, Continues-call, outcome-back, outcome-end, outcome-missing, outcome-full, outcome-compose, outcome-over, refused-step, refused-parts}
use Rattle.t1_run.proofs.Naming.{standard_parts}
use Rattle.t1_run.proofs.runner.run_words.Goals as goal

-- the body of a Subr that is there
there : {o : Option (Bor (List Command))} {called : Bor (List Command)} {body : Option (List Command)} → option_copied o ≡ body → o ≡ Some called → body ≡ Some called.now
there copied is = sym copied ∙ ap option_copied is

pub words-init : goal.words-init
words-init g c = rw c.new-returns.ensures (rw c.requires (Continues-start _ _))

pub returns-in_err-control-clause-ends : goal.returns-in_err-control-clause-ends
returns-in_err-control-clause-ends g c =
    let m = font (g.B.Bodies.subrs c.args.bodies.now) (g.B.Bodies.glyphs c.args.bodies.now) in
    let meets = c.in_err-control.ensures.comes m c.args.body.now c.words.returns c.words.invariant in
    let p = err_from_is_err_and c.from_residual.result c.from_residual.ensures.1 in
    rw (p.1, p.2, meets.by) (refused-step _ meets.here meets.is)

pub returns-in_err-rest-clause-ends : goal.returns-in_err-rest-clause-ends
returns-in_err-rest-clause-ends g c =
    let m = font (g.B.Bodies.subrs c.args.bodies.now) (g.B.Bodies.glyphs c.args.bodies.now) in
    let over = subst (λ found. Comes m c.args.body.now c.words.returns (Ok found) c.run_commands.new.state) c.in_default.is (c.in_ok-control.ensures.comes m c.args.body.now c.words.returns c.words.invariant) in
    let p = err_from_is_err_and c.from_residual-in_err-rest.result c.from_residual-in_err-rest.ensures.1 in
    let none = lacking _ _ _ c.in_err-rest.ensures.value in
    let empty : c.words.returns ≡ [] = search rules in
    rw (p.1, p.2, none.1) (ap (reported_at Nowhere) (outcome-over (at_waiting over empty)))

pub returns-in_err-called-in-Call-clause-ends : goal.returns-in_err-called-in-Call-clause-ends
returns-in_err-called-in-Call-clause-ends g c =
    let m = font (g.B.Bodies.subrs c.args.bodies.now) (g.B.Bodies.glyphs c.args.bodies.now) in
    let asks = asks_for _ (c.in_ok-control.ensures.comes m c.args.body.now c.words.returns c.words.invariant) c.in-Some.is c.in-Call.is in
    let p = err_from_is_err_and c.from_residual-in_err-called-in-Call.result c.from_residual-in_err-called-in-Call.ensures.1 in
    let none = lacking _ _ _ c.in_err-called-in-Call.ensures.value in
    rw (p.1, p.2, none.1) (ap (reported_at Nowhere) (outcome-missing asks.here asks.is (sym c.subr.ensures ∙ ap option_copied none.0)))

pub returns-then-is_full-clause-ends : goal.returns-then-is_full-clause-ends
returns-then-is_full-clause-ends g c =
    let m = font (g.B.Bodies.subrs c.args.bodies.now) (g.B.Bodies.glyphs c.args.bodies.now) in
    let asks = asks_for _ (c.in_ok-control.ensures.comes m c.args.body.now c.words.returns c.words.invariant) c.in-Some.is c.in-Call.is in
    rw c.from.ensures
    (ap (reported_at Nowhere) (outcome-full asks.here asks.is (there c.subr.ensures c.in_ok-called-in-Call.ensures.ok_part) (c.if-is_full.ensures.full.0 refl)))

pub words-preserved-in-Call : goal.words-preserved-in-Call
words-preserved-in-Call g c =
    let m = font (g.B.Bodies.subrs c.args.bodies.now) (g.B.Bodies.glyphs c.args.bodies.now) in
    let asks = asks_for _ (c.in_ok-control.ensures.comes m c.args.body.now c.words.returns c.words.invariant) c.in-Some.is c.in-Call.is in
    let fits : length c.words.returns < 10 = search rules in
    rw (c.push.ensures, c.in_ok-enter-in-Call.ensures.entered)
    (Continues-call asks.here asks.is (there c.subr.ensures c.in_ok-called-in-Call.ensures.ok_part) fits)

pub returns-in_err-rest-in-Back-clause-ends : goal.returns-in_err-rest-in-Back-clause-ends
returns-in_err-rest-in-Back-clause-ends g c =
    let m = font (g.B.Bodies.subrs c.args.bodies.now) (g.B.Bodies.glyphs c.args.bodies.now) in
    let asks = asks_for _ (c.in_ok-control.ensures.comes m c.args.body.now c.words.returns c.words.invariant) c.in-Some.is c.in-Back.is in
    let p = err_from_is_err_and c.from_residual-in_err-rest-in-Back.result c.from_residual-in_err-rest-in-Back.ensures.1 in
    let none = lacking _ _ _ c.in_err-rest-in-Back.ensures.value in
    let empty : c.words.returns ≡ [] = search rules in
    rw (p.1, p.2, none.1) (ap (reported_at Nowhere) (outcome-back (at_waiting asks.here empty) asks.is))

pub returns-in-End-clause-ends : goal.returns-in-End-clause-ends
returns-in-End-clause-ends g c =
    let m = font (g.B.Bodies.subrs c.args.bodies.now) (g.B.Bodies.glyphs c.args.bodies.now) in
    let asks = asks_for _ (c.in_ok-control.ensures.comes m c.args.body.now c.words.returns c.words.invariant) c.in-Some.is c.in-End.is in
    outcome-end asks.here asks.is

pub returns-in-Compose-clause-ends : goal.returns-in-Compose-clause-ends
returns-in-Compose-clause-ends g c =
    let m = font (g.B.Bodies.subrs c.args.bodies.now) (g.B.Bodies.glyphs c.args.bodies.now) in
    let asks = asks_for _ (c.in_ok-control.ensures.comes m c.args.body.now c.words.returns c.words.invariant) c.in-Some.is c.in-Compose.is in
    outcome-compose asks.here asks.is (reported_ok Nowhere _ _ c.in_ok-parts-in-Compose.ensures)

pub returns-in_err-parts-in-Compose-clause-ends : goal.returns-in_err-parts-in-Compose-clause-ends
returns-in_err-parts-in-Compose-clause-ends g c =
    let m = font (g.B.Bodies.subrs c.args.bodies.now) (g.B.Bodies.glyphs c.args.bodies.now) in
    let asks = asks_for _ (c.in_ok-control.ensures.comes m c.args.body.now c.words.returns c.words.invariant) c.in-Some.is c.in-Compose.is in
    let p = err_from_is_err_and c.from_residual-in_err-parts-in-Compose.result c.from_residual-in_err-parts-in-Compose.ensures.1 in
    rw (p.1, p.2) (refused-parts _ asks.here asks.is c.in_err-parts-in-Compose.ensures)

pub returns-in-Compose-clause-parts : goal.returns-in-Compose-clause-parts
returns-in-Compose-clause-parts g c =
    standard_parts (g.B.Bodies.glyphs c.args.bodies.now) c.in-Compose.accent c.in_ok-parts-in-Compose.parts (reported_ok Nowhere _ _ c.in_ok-parts-in-Compose.ensures)
