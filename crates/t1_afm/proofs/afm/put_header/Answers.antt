use Rattle.std.proofs.Common.{ap, ◌∙◌}
use Rattle.std.proofs.lemmas.Result.{err_from_is_err_and}
use Rattle.t1_afm.specs.Afm.{lines_text, value_lines, values_before_box, values_after_box, sides, scheme}
use Rattle.t1_afm.proofs.Sections.{start_line, box_line, scheme_line, header_is}
use Rattle.t1_code.proofs.Writing.{passing, Written-from, Written-step, Written-fails, Written-last}
use Rattle.t1_afm.proofs.afm.put_header.Goals as goal

pub returns-in_err-put_line : goal.returns-in_err-put_line
returns-in_err-put_line g c =
    let a = c.args.outlet.now in
    let w0 = Written-from (passing g.W.Write.contents) a _ _ (header_is c.args.metrics.now.header c.args.metrics.now.standard c.args.metrics.now.font_box) in
    rw (err_from_is_err_and c.from_residual.result c.from_residual.ensures.1).1 (Written-fails (passing g.W.Write.contents) a a c.put_line.new.outlet _ start_line _ w0 c.in_err-put_line.ensures)

pub returns-in_err-put_values : goal.returns-in_err-put_values
returns-in_err-put_values g c =
    let a = c.args.outlet.now in
    let w0 = Written-from (passing g.W.Write.contents) a _ _ (header_is c.args.metrics.now.header c.args.metrics.now.standard c.args.metrics.now.font_box) in
    let b0 = c.put_line.new.outlet in
    let w1 = Written-step (passing g.W.Write.contents) a a b0 _ start_line _ w0 c.in_ok-put_line.ensures in
    rw (err_from_is_err_and c.from_residual-in_err-put_values.result c.from_residual-in_err-put_values.ensures.1).1 (Written-fails (passing g.W.Write.contents) a b0 c.put_values.new.outlet _ (lines_text (value_lines (values_before_box c.args.metrics.now.header))) _ w1 (rw (c.values_before_box.ensures ∙ ap (λ s. values_before_box s.header) c.metrics.view_is) at c.in_err-put_values.ensures))

pub returns-in_err-put_line-2 : goal.returns-in_err-put_line-2
returns-in_err-put_line-2 g c =
    let a = c.args.outlet.now in
    let w0 = Written-from (passing g.W.Write.contents) a _ _ (header_is c.args.metrics.now.header c.args.metrics.now.standard c.args.metrics.now.font_box) in
    let b0 = c.put_line.new.outlet in
    let w1 = Written-step (passing g.W.Write.contents) a a b0 _ start_line _ w0 c.in_ok-put_line.ensures in
    let b1 = c.put_values.new.outlet in
    let w2 = Written-step (passing g.W.Write.contents) a b0 b1 _ (lines_text (value_lines (values_before_box c.args.metrics.now.header))) _ w1 (rw (c.values_before_box.ensures ∙ ap (λ s. values_before_box s.header) c.metrics.view_is) at c.in_ok-put_values.ensures) in
    rw (err_from_is_err_and c.from_residual-in_err-put_line-2.result c.from_residual-in_err-put_line-2.ensures.1).1 (Written-fails (passing g.W.Write.contents) a b1 c.put_line-2.new.outlet _ (box_line c.args.metrics.now.font_box) _ w2 (rw (c.sides.ensures ∙ ap (λ s. sides s.font_box) c.metrics.view_is) at c.in_err-put_line-2.ensures))

pub returns-in_err-put_values-2 : goal.returns-in_err-put_values-2
returns-in_err-put_values-2 g c =
    let a = c.args.outlet.now in
    let w0 = Written-from (passing g.W.Write.contents) a _ _ (header_is c.args.metrics.now.header c.args.metrics.now.standard c.args.metrics.now.font_box) in
    let b0 = c.put_line.new.outlet in
    let w1 = Written-step (passing g.W.Write.contents) a a b0 _ start_line _ w0 c.in_ok-put_line.ensures in
    let b1 = c.put_values.new.outlet in
    let w2 = Written-step (passing g.W.Write.contents) a b0 b1 _ (lines_text (value_lines (values_before_box c.args.metrics.now.header))) _ w1 (rw (c.values_before_box.ensures ∙ ap (λ s. values_before_box s.header) c.metrics.view_is) at c.in_ok-put_values.ensures) in
    let b2 = c.put_line-2.new.outlet in
    let w3 = Written-step (passing g.W.Write.contents) a b1 b2 _ (box_line c.args.metrics.now.font_box) _ w2 (rw (c.sides.ensures ∙ ap (λ s. sides s.font_box) c.metrics.view_is) at c.in_ok-put_line-2.ensures) in
    rw (err_from_is_err_and c.from_residual-in_err-put_values-2.result c.from_residual-in_err-put_values-2.ensures.1).1 (Written-fails (passing g.W.Write.contents) a b2 c.put_values-2.new.outlet _ (lines_text (value_lines (values_after_box c.args.metrics.now.header))) _ w3 (rw (c.values_after_box.ensures ∙ ap (λ s. values_after_box s.header) c.metrics.view_is) at c.in_err-put_values-2.ensures))

pub returns : goal.returns
returns g c =
    let a = c.args.outlet.now in
    let w0 = Written-from (passing g.W.Write.contents) a _ _ (header_is c.args.metrics.now.header c.args.metrics.now.standard c.args.metrics.now.font_box) in
    let b0 = c.put_line.new.outlet in
    let w1 = Written-step (passing g.W.Write.contents) a a b0 _ start_line _ w0 c.in_ok-put_line.ensures in
    let b1 = c.put_values.new.outlet in
    let w2 = Written-step (passing g.W.Write.contents) a b0 b1 _ (lines_text (value_lines (values_before_box c.args.metrics.now.header))) _ w1 (rw (c.values_before_box.ensures ∙ ap (λ s. values_before_box s.header) c.metrics.view_is) at c.in_ok-put_values.ensures) in
    let b2 = c.put_line-2.new.outlet in
    let w3 = Written-step (passing g.W.Write.contents) a b1 b2 _ (box_line c.args.metrics.now.font_box) _ w2 (rw (c.sides.ensures ∙ ap (λ s. sides s.font_box) c.metrics.view_is) at c.in_ok-put_line-2.ensures) in
    let b3 = c.put_values-2.new.outlet in
    let w4 = Written-step (passing g.W.Write.contents) a b2 b3 _ (lines_text (value_lines (values_after_box c.args.metrics.now.header))) _ w3 (rw (c.values_after_box.ensures ∙ ap (λ s. values_after_box s.header) c.metrics.view_is) at c.in_ok-put_values-2.ensures) in
    Written-last (passing g.W.Write.contents) c.put_line-3.result a b3 c.put_line-3.new.outlet _ (scheme_line c.args.metrics.now.standard) w4 (rw (c.scheme.ensures ∙ ap (λ s. scheme s.standard) c.metrics.view_is) at c.put_line-3.ensures)
