use Rattle.std.proofs.lemmas.Result.{err_from_is_err_and}
use Rattle.t1_extent.specs.Exacts.{extremes_of}
use Rattle.t1_extent.specs.Figures.{distance_of}
use Rattle.t1_extent.proofs.Exacts.{left_out, bottom_out, right_out, top_out, none_out, moved_sides, moved_within, whole_moved}
use Rattle.t1_extent.proofs.extent.Extent.displaced.Goals as goal

pub returns-in_err-left-clause-outcome : goal.returns-in_err-left-clause-outcome
returns-in_err-left-clause-outcome c =
    let p = err_from_is_err_and c.from_residual.result c.from_residual.ensures.1 in
    rw (p.1, p.2) (left_out (distance_of c.args.by.now) (extremes_of c.args.self.now) _ c.in_err-left.ensures.outcome)

pub returns-in_err-bottom-clause-outcome : goal.returns-in_err-bottom-clause-outcome
returns-in_err-bottom-clause-outcome c =
    let p = err_from_is_err_and c.from_residual-in_err-bottom.result c.from_residual-in_err-bottom.ensures.1 in
    rw (p.1, p.2) (bottom_out (distance_of c.args.by.now) (extremes_of c.args.self.now) _ c.in_err-bottom.ensures.outcome)

pub returns-in_err-right-clause-outcome : goal.returns-in_err-right-clause-outcome
returns-in_err-right-clause-outcome c =
    let p = err_from_is_err_and c.from_residual-in_err-right.result c.from_residual-in_err-right.ensures.1 in
    rw (p.1, p.2) (right_out (distance_of c.args.by.now) (extremes_of c.args.self.now) _ c.in_err-right.ensures.outcome)

pub returns-in_err-top-clause-outcome : goal.returns-in_err-top-clause-outcome
returns-in_err-top-clause-outcome c =
    let p = err_from_is_err_and c.from_residual-in_err-top.result c.from_residual-in_err-top.ensures.1 in
    rw (p.1, p.2) (top_out (distance_of c.args.by.now) (extremes_of c.args.self.now) _ c.in_err-top.ensures.outcome)

pub returns-clause-outcome : goal.returns-clause-outcome
returns-clause-outcome c = none_out (distance_of c.args.by.now) (extremes_of c.args.self.now) _ _ _ _ c.in_ok-left.ensures.outcome c.in_ok-bottom.ensures.outcome c.in_ok-right.ensures.outcome c.in_ok-top.ensures.outcome

pub returns-clause-value : goal.returns-clause-value
returns-clause-value c = moved_sides (distance_of c.args.by.now) (extremes_of c.args.self.now) _ _ _ _ c.in_ok-left.ensures.value c.in_ok-bottom.ensures.value c.in_ok-right.ensures.value c.in_ok-top.ensures.value

pub returns-clause-within : goal.returns-clause-within
returns-clause-within c =
    let e = extremes_of c.args.self.now in
    moved_within (distance_of c.args.by.now) _ e (moved_sides (distance_of c.args.by.now) e _ _ _ _ c.in_ok-left.ensures.value c.in_ok-bottom.ensures.value c.in_ok-right.ensures.value c.in_ok-top.ensures.value)
    (none_out (distance_of c.args.by.now) e _ _ _ _ c.in_ok-left.ensures.outcome c.in_ok-bottom.ensures.outcome c.in_ok-right.ensures.outcome c.in_ok-top.ensures.outcome)

pub returns-in_err-left-clause-value : goal.returns-in_err-left-clause-value
returns-in_err-left-clause-value c = rw (err_from_is_err_and c.from_residual.result c.from_residual.ensures.1).1 tt

pub returns-in_err-left-clause-within : goal.returns-in_err-left-clause-within
returns-in_err-left-clause-within c = rw (err_from_is_err_and c.from_residual.result c.from_residual.ensures.1).1 tt

pub returns-in_err-left-clause-fine : goal.returns-in_err-left-clause-fine
returns-in_err-left-clause-fine c = rw (err_from_is_err_and c.from_residual.result c.from_residual.ensures.1).1 tt

pub returns-in_err-bottom-clause-value : goal.returns-in_err-bottom-clause-value
returns-in_err-bottom-clause-value c = rw (err_from_is_err_and c.from_residual-in_err-bottom.result c.from_residual-in_err-bottom.ensures.1).1 tt

pub returns-in_err-bottom-clause-within : goal.returns-in_err-bottom-clause-within
returns-in_err-bottom-clause-within c = rw (err_from_is_err_and c.from_residual-in_err-bottom.result c.from_residual-in_err-bottom.ensures.1).1 tt

pub returns-in_err-bottom-clause-fine : goal.returns-in_err-bottom-clause-fine
returns-in_err-bottom-clause-fine c = rw (err_from_is_err_and c.from_residual-in_err-bottom.result c.from_residual-in_err-bottom.ensures.1).1 tt

pub returns-in_err-right-clause-value : goal.returns-in_err-right-clause-value
returns-in_err-right-clause-value c = rw (err_from_is_err_and c.from_residual-in_err-right.result c.from_residual-in_err-right.ensures.1).1 tt

pub returns-in_err-right-clause-within : goal.returns-in_err-right-clause-within
returns-in_err-right-clause-within c = rw (err_from_is_err_and c.from_residual-in_err-right.result c.from_residual-in_err-right.ensures.1).1 tt

pub returns-in_err-right-clause-fine : goal.returns-in_err-right-clause-fine
returns-in_err-right-clause-fine c = rw (err_from_is_err_and c.from_residual-in_err-right.result c.from_residual-in_err-right.ensures.1).1 tt

pub returns-in_err-top-clause-value : goal.returns-in_err-top-clause-value
returns-in_err-top-clause-value c = rw (err_from_is_err_and c.from_residual-in_err-top.result c.from_residual-in_err-top.ensures.1).1 tt

pub returns-in_err-top-clause-within : goal.returns-in_err-top-clause-within
returns-in_err-top-clause-within c = rw (err_from_is_err_and c.from_residual-in_err-top.result c.from_residual-in_err-top.ensures.1).1 tt

pub returns-in_err-top-clause-fine : goal.returns-in_err-top-clause-fine
returns-in_err-top-clause-fine c = rw (err_from_is_err_and c.from_residual-in_err-top.result c.from_residual-in_err-top.ensures.1).1 tt

pub returns-clause-fine : goal.returns-clause-fine
returns-clause-fine c = λ fine. record {
  left = whole_moved _ _ _ c.in_ok-left.ensures.fine fine.left c.requires.by.x;
  bottom = whole_moved _ _ _ c.in_ok-bottom.ensures.fine fine.bottom c.requires.by.y;
  right = whole_moved _ _ _ c.in_ok-right.ensures.fine fine.right c.requires.by.x;
  top = whole_moved _ _ _ c.in_ok-top.ensures.fine fine.top c.requires.by.y;
}
