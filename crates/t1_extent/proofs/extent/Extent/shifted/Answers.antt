use Rattle.std.proofs.Common.{inl, inr, ⊎_elim, ◌^◌}
use Rattle.std.proofs.lemmas.Result.{err_from_is_err_and}
use Rattle.t1_extent.specs.Exacts.{extremes_of, AreFine}
use Rattle.t1_extent.specs.Extremes.{IsWhole}
use Rattle.t1_extent.proofs.Exacts.{left_out, bottom_out, right_out, top_out, none_out, moved_sides, moved_within, whole_moved, moved_whole}
use Rattle.t1_extent.proofs.extent.Extent.shifted.Goals as goal

pub returns-in_err-left-clause-outcome : goal.returns-in_err-left-clause-outcome
returns-in_err-left-clause-outcome c =
    let p = err_from_is_err_and c.from_residual.result c.from_residual.ensures.1 in
    rw (p.1, p.2) (left_out c.args.by.now (extremes_of c.args.self.now) _ c.in_err-left.ensures.outcome)

pub returns-in_err-bottom-clause-outcome : goal.returns-in_err-bottom-clause-outcome
returns-in_err-bottom-clause-outcome c =
    let p = err_from_is_err_and c.from_residual-in_err-bottom.result c.from_residual-in_err-bottom.ensures.1 in
    rw (p.1, p.2) (bottom_out c.args.by.now (extremes_of c.args.self.now) _ c.in_err-bottom.ensures.outcome)

pub returns-in_err-right-clause-outcome : goal.returns-in_err-right-clause-outcome
returns-in_err-right-clause-outcome c =
    let p = err_from_is_err_and c.from_residual-in_err-right.result c.from_residual-in_err-right.ensures.1 in
    rw (p.1, p.2) (right_out c.args.by.now (extremes_of c.args.self.now) _ c.in_err-right.ensures.outcome)

pub returns-in_err-top-clause-outcome : goal.returns-in_err-top-clause-outcome
returns-in_err-top-clause-outcome c =
    let p = err_from_is_err_and c.from_residual-in_err-top.result c.from_residual-in_err-top.ensures.1 in
    rw (p.1, p.2) (top_out c.args.by.now (extremes_of c.args.self.now) _ c.in_err-top.ensures.outcome)

pub returns-clause-outcome : goal.returns-clause-outcome
returns-clause-outcome c = none_out c.args.by.now (extremes_of c.args.self.now) _ _ _ _ c.in_ok-left.ensures.outcome c.in_ok-bottom.ensures.outcome c.in_ok-right.ensures.outcome c.in_ok-top.ensures.outcome

pub returns-clause-value : goal.returns-clause-value
returns-clause-value c = moved_sides c.args.by.now (extremes_of c.args.self.now) _ _ _ _ c.in_ok-left.ensures.value c.in_ok-bottom.ensures.value c.in_ok-right.ensures.value c.in_ok-top.ensures.value

pub returns-clause-within : goal.returns-clause-within
returns-clause-within c =
    let e = extremes_of c.args.self.now in
    moved_within c.args.by.now _ e (moved_sides c.args.by.now e _ _ _ _ c.in_ok-left.ensures.value c.in_ok-bottom.ensures.value c.in_ok-right.ensures.value c.in_ok-top.ensures.value)
    (none_out c.args.by.now e _ _ _ _ c.in_ok-left.ensures.outcome c.in_ok-bottom.ensures.outcome c.in_ok-right.ensures.outcome c.in_ok-top.ensures.outcome)

pub returns-in_err-left-clause-value : goal.returns-in_err-left-clause-value
returns-in_err-left-clause-value c = rw (err_from_is_err_and c.from_residual.result c.from_residual.ensures.1).1 tt

pub returns-in_err-left-clause-within : goal.returns-in_err-left-clause-within
returns-in_err-left-clause-within c = rw (err_from_is_err_and c.from_residual.result c.from_residual.ensures.1).1 tt

pub returns-in_err-left-clause-fine : goal.returns-in_err-left-clause-fine
returns-in_err-left-clause-fine c = rw (err_from_is_err_and c.from_residual.result c.from_residual.ensures.1).1 tt

pub returns-in_err-left-clause-whole : goal.returns-in_err-left-clause-whole
returns-in_err-left-clause-whole c = rw (err_from_is_err_and c.from_residual.result c.from_residual.ensures.1).1 tt

pub returns-in_err-bottom-clause-value : goal.returns-in_err-bottom-clause-value
returns-in_err-bottom-clause-value c = rw (err_from_is_err_and c.from_residual-in_err-bottom.result c.from_residual-in_err-bottom.ensures.1).1 tt

pub returns-in_err-bottom-clause-within : goal.returns-in_err-bottom-clause-within
returns-in_err-bottom-clause-within c = rw (err_from_is_err_and c.from_residual-in_err-bottom.result c.from_residual-in_err-bottom.ensures.1).1 tt

pub returns-in_err-bottom-clause-fine : goal.returns-in_err-bottom-clause-fine
returns-in_err-bottom-clause-fine c = rw (err_from_is_err_and c.from_residual-in_err-bottom.result c.from_residual-in_err-bottom.ensures.1).1 tt

pub returns-in_err-bottom-clause-whole : goal.returns-in_err-bottom-clause-whole
returns-in_err-bottom-clause-whole c = rw (err_from_is_err_and c.from_residual-in_err-bottom.result c.from_residual-in_err-bottom.ensures.1).1 tt

pub returns-in_err-right-clause-value : goal.returns-in_err-right-clause-value
returns-in_err-right-clause-value c = rw (err_from_is_err_and c.from_residual-in_err-right.result c.from_residual-in_err-right.ensures.1).1 tt

pub returns-in_err-right-clause-within : goal.returns-in_err-right-clause-within
returns-in_err-right-clause-within c = rw (err_from_is_err_and c.from_residual-in_err-right.result c.from_residual-in_err-right.ensures.1).1 tt

pub returns-in_err-right-clause-fine : goal.returns-in_err-right-clause-fine
returns-in_err-right-clause-fine c = rw (err_from_is_err_and c.from_residual-in_err-right.result c.from_residual-in_err-right.ensures.1).1 tt

pub returns-in_err-right-clause-whole : goal.returns-in_err-right-clause-whole
returns-in_err-right-clause-whole c = rw (err_from_is_err_and c.from_residual-in_err-right.result c.from_residual-in_err-right.ensures.1).1 tt

pub returns-in_err-top-clause-value : goal.returns-in_err-top-clause-value
returns-in_err-top-clause-value c = rw (err_from_is_err_and c.from_residual-in_err-top.result c.from_residual-in_err-top.ensures.1).1 tt

pub returns-in_err-top-clause-within : goal.returns-in_err-top-clause-within
returns-in_err-top-clause-within c = rw (err_from_is_err_and c.from_residual-in_err-top.result c.from_residual-in_err-top.ensures.1).1 tt

pub returns-in_err-top-clause-fine : goal.returns-in_err-top-clause-fine
returns-in_err-top-clause-fine c = rw (err_from_is_err_and c.from_residual-in_err-top.result c.from_residual-in_err-top.ensures.1).1 tt

pub returns-in_err-top-clause-whole : goal.returns-in_err-top-clause-whole
returns-in_err-top-clause-whole c = rw (err_from_is_err_and c.from_residual-in_err-top.result c.from_residual-in_err-top.ensures.1).1 tt

pub shifted-requires : goal.shifted-requires
shifted-requires c = ⊎_elim (λ (fine : AreFine (2 ^ 20) c.args.self.now). inl fine.left) (λ (whole : IsWhole c.args.by.now). inr whole.x) c.requires

pub shifted-requires-2 : goal.shifted-requires-2
shifted-requires-2 c = ⊎_elim (λ (fine : AreFine (2 ^ 20) c.args.self.now). inl fine.bottom) (λ (whole : IsWhole c.args.by.now). inr whole.y) c.requires

pub shifted-requires-3 : goal.shifted-requires-3
shifted-requires-3 c = ⊎_elim (λ (fine : AreFine (2 ^ 20) c.args.self.now). inl fine.right) (λ (whole : IsWhole c.args.by.now). inr whole.x) c.requires

pub shifted-requires-4 : goal.shifted-requires-4
shifted-requires-4 c = ⊎_elim (λ (fine : AreFine (2 ^ 20) c.args.self.now). inl fine.top) (λ (whole : IsWhole c.args.by.now). inr whole.y) c.requires

pub returns-clause-fine : goal.returns-clause-fine
returns-clause-fine c = λ n whole fine. record {
  left = moved_whole _ _ _ n c.in_ok-left.ensures.fine whole.x fine.left;
  bottom = moved_whole _ _ _ n c.in_ok-bottom.ensures.fine whole.y fine.bottom;
  right = moved_whole _ _ _ n c.in_ok-right.ensures.fine whole.x fine.right;
  top = moved_whole _ _ _ n c.in_ok-top.ensures.fine whole.y fine.top;
}

pub returns-clause-whole : goal.returns-clause-whole
returns-clause-whole c = λ distance fine. record {
  left = whole_moved _ _ _ c.in_ok-left.ensures.fine fine.left distance.x_fine;
  bottom = whole_moved _ _ _ c.in_ok-bottom.ensures.fine fine.bottom distance.y_fine;
  right = whole_moved _ _ _ c.in_ok-right.ensures.fine fine.right distance.x_fine;
  top = whole_moved _ _ _ c.in_ok-top.ensures.fine fine.top distance.y_fine;
}
