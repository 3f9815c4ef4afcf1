use Rattle.std.proofs.Common.{ap, ◌∙◌, subst, []}
use Rattle.std.specs.Prelude.{Ok, Err}
use Rattle.std.proofs.lemmas.Result.{err_from_is_err_and}
use Rattle.t1_extent.specs.Figures.{IsWholeFigure, distance_of}
use Rattle.t1_extent.specs.Turns.{through}
use Rattle.t1_extent.proofs.Riding.{nothing_through, no_figure, riding, figure_refused, figure_draws, figure_reaches}
use Rattle.t1_extent.proofs.figure.Figure.through.Goals as goal

pub returns-in_default : goal.returns-in_default
returns-in_default c = λ outline h ok. (
  [],
  ap (through c.args.moves.now c.args.last.now) (no_figure c.args.figure outline c.in_default.not-Some h.reported) ∙ nothing_through c.args.moves.now c.args.last.now,
  c.nothing.ensures.reach,
)

pub returns-in_err-place : goal.returns-in_err-place
returns-in_err-place c =
    let p = err_from_is_err_and c.from_residual.result c.from_residual.ensures.1 in
    rw (p.1, p.2) (λ outline h ok.
    riding c.in-Some.figure c.args.moves.now c.args.last.now outline (Err _) (subst (λ f. IsWholeFigure f outline) c.in-Some.is h) c.requires.moves c.requires.last ok
    c.in_err-place.ensures.moved)

pub returns-in_err-corners : goal.returns-in_err-corners
returns-in_err-corners c =
    let p = err_from_is_err_and c.from_residual-in_err-corners.result c.from_residual-in_err-corners.ensures.1 in
    rw (p.1, p.2) (λ outline h ok.
    let is = subst (λ f. IsWholeFigure f outline) c.in-Some.is h in
    let k = riding c.in-Some.figure c.args.moves.now c.args.last.now outline (Ok c.in_ok-place.place) is c.requires.moves c.requires.last ok c.in_ok-place.ensures.moved in
    figure_refused c.in-Some.figure outline c.in_ok-place.place (distance_of c.between-by.result) (through c.args.moves.now c.args.last.now outline) _ is.reported
    c.between-by.ensures.value k c.in_err-corners.ensures.outcome)

pub returns-in_err-drawn : goal.returns-in_err-drawn
returns-in_err-drawn c = λ outline h ok.
    let is = subst (λ f. IsWholeFigure f outline) c.in-Some.is h in
    let k = riding c.in-Some.figure c.args.moves.now c.args.last.now outline (Ok c.in_ok-place.place) is c.requires.moves c.requires.last ok c.in_ok-place.ensures.moved in
    absurd (figure_draws c.in-Some.figure outline c.in_ok-place.place (distance_of c.between-by.result) (through c.args.moves.now c.args.last.now outline) _ is.reported
    c.between-by.ensures.value k c.in_ok-corners.ensures.outcome c.in_err-drawn.ensures.outcome)

pub returns : goal.returns
returns c = λ outline h ok.
    let is = subst (λ f. IsWholeFigure f outline) c.in-Some.is h in
    let k = riding c.in-Some.figure c.args.moves.now c.args.last.now outline (Ok c.in_ok-place.place) is c.requires.moves c.requires.last ok c.in_ok-place.ensures.moved in
    rw c.rounded.ensures
    (figure_reaches c.in-Some.figure outline c.in_ok-place.place (distance_of c.between-by.result) (through c.args.moves.now c.args.last.now outline) c.in_ok-drawn.drawn c.in_ok-corners.corners
    is.reported c.between-by.ensures.value k c.in_ok-corners.ensures.outcome c.in_ok-drawn.ensures.value c.in_ok-corners.ensures.value
    (c.in_ok-corners.ensures.fine c.in-Some.figure.corners_fine))
