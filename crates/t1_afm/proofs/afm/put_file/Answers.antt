use Rattle.std.proofs.Common.{ap, ◌∙◌}
use Rattle.std.proofs.lemmas.Result.{err_from_is_err_and}
use Rattle.t1_afm.specs.Afm.{lines_text, header_lines, kerning_lines, composite_lines}
use Rattle.t1_afm.proofs.Sections.{glyphs_text, end_line, file_is}
use Rattle.t1_code.proofs.Writing.{passing, Written-from, Written-step, Written-fails, Written-last}
use Rattle.t1_afm.proofs.afm.put_file.Goals as goal

pub returns-in_err-put_header : goal.returns-in_err-put_header
returns-in_err-put_header g c =
    let a = c.args.outlet.now in
    let w0 = Written-from (passing g.W.Write.contents) a _ _ (file_is c.args.metrics.now) in
    rw (err_from_is_err_and c.from_residual.result c.from_residual.ensures.1).1 (Written-fails (passing g.W.Write.contents) a a c.put_header.new.outlet _ (lines_text (header_lines c.args.metrics.now.header c.args.metrics.now.standard c.args.metrics.now.font_box)) _ w0 c.in_err-put_header.ensures)

pub returns-in_err-put_glyphs : goal.returns-in_err-put_glyphs
returns-in_err-put_glyphs g c =
    let a = c.args.outlet.now in
    let w0 = Written-from (passing g.W.Write.contents) a _ _ (file_is c.args.metrics.now) in
    let b0 = c.put_header.new.outlet in
    let w1 = Written-step (passing g.W.Write.contents) a a b0 _ (lines_text (header_lines c.args.metrics.now.header c.args.metrics.now.standard c.args.metrics.now.font_box)) _ w0 c.in_ok-put_header.ensures in
    rw (err_from_is_err_and c.from_residual-in_err-put_glyphs.result c.from_residual-in_err-put_glyphs.ensures.1).1 (Written-fails (passing g.W.Write.contents) a b0 c.put_glyphs.new.outlet _ (glyphs_text c.args.metrics.now.chars) _ w1 (rw (c.deref.ensures.value ∙ ap (λ s. s.chars) c.metrics.view_is) at c.in_err-put_glyphs.ensures))

pub returns-in_err-put_kerning : goal.returns-in_err-put_kerning
returns-in_err-put_kerning g c =
    let a = c.args.outlet.now in
    let w0 = Written-from (passing g.W.Write.contents) a _ _ (file_is c.args.metrics.now) in
    let b0 = c.put_header.new.outlet in
    let w1 = Written-step (passing g.W.Write.contents) a a b0 _ (lines_text (header_lines c.args.metrics.now.header c.args.metrics.now.standard c.args.metrics.now.font_box)) _ w0 c.in_ok-put_header.ensures in
    let b1 = c.put_glyphs.new.outlet in
    let w2 = Written-step (passing g.W.Write.contents) a b0 b1 _ (glyphs_text c.args.metrics.now.chars) _ w1 (rw (c.deref.ensures.value ∙ ap (λ s. s.chars) c.metrics.view_is) at c.in_ok-put_glyphs.ensures) in
    rw (err_from_is_err_and c.from_residual-in_err-put_kerning.result c.from_residual-in_err-put_kerning.ensures.1).1 (Written-fails (passing g.W.Write.contents) a b1 c.put_kerning.new.outlet _ (lines_text (kerning_lines c.args.metrics.now.pairs)) _ w2 (rw (c.deref-2.ensures.value ∙ ap (λ s. s.pairs) c.metrics.view_is) at c.in_err-put_kerning.ensures))

pub returns-in_err-put_composites : goal.returns-in_err-put_composites
returns-in_err-put_composites g c =
    let a = c.args.outlet.now in
    let w0 = Written-from (passing g.W.Write.contents) a _ _ (file_is c.args.metrics.now) in
    let b0 = c.put_header.new.outlet in
    let w1 = Written-step (passing g.W.Write.contents) a a b0 _ (lines_text (header_lines c.args.metrics.now.header c.args.metrics.now.standard c.args.metrics.now.font_box)) _ w0 c.in_ok-put_header.ensures in
    let b1 = c.put_glyphs.new.outlet in
    let w2 = Written-step (passing g.W.Write.contents) a b0 b1 _ (glyphs_text c.args.metrics.now.chars) _ w1 (rw (c.deref.ensures.value ∙ ap (λ s. s.chars) c.metrics.view_is) at c.in_ok-put_glyphs.ensures) in
    let b2 = c.put_kerning.new.outlet in
    let w3 = Written-step (passing g.W.Write.contents) a b1 b2 _ (lines_text (kerning_lines c.args.metrics.now.pairs)) _ w2 (rw (c.deref-2.ensures.value ∙ ap (λ s. s.pairs) c.metrics.view_is) at c.in_ok-put_kerning.ensures) in
    rw (err_from_is_err_and c.from_residual-in_err-put_composites.result c.from_residual-in_err-put_composites.ensures.1).1 (Written-fails (passing g.W.Write.contents) a b2 c.put_composites.new.outlet _ (lines_text (composite_lines c.args.metrics.now.composites)) _ w3 (rw (c.deref-3.ensures.value ∙ ap (λ s. s.composites) c.metrics.view_is) at c.in_err-put_composites.ensures))

pub returns : goal.returns
returns g c =
    let a = c.args.outlet.now in
    let w0 = Written-from (passing g.W.Write.contents) a _ _ (file_is c.args.metrics.now) in
    let b0 = c.put_header.new.outlet in
    let w1 = Written-step (passing g.W.Write.contents) a a b0 _ (lines_text (header_lines c.args.metrics.now.header c.args.metrics.now.standard c.args.metrics.now.font_box)) _ w0 c.in_ok-put_header.ensures in
    let b1 = c.put_glyphs.new.outlet in
    let w2 = Written-step (passing g.W.Write.contents) a b0 b1 _ (glyphs_text c.args.metrics.now.chars) _ w1 (rw (c.deref.ensures.value ∙ ap (λ s. s.chars) c.metrics.view_is) at c.in_ok-put_glyphs.ensures) in
    let b2 = c.put_kerning.new.outlet in
    let w3 = Written-step (passing g.W.Write.contents) a b1 b2 _ (lines_text (kerning_lines c.args.metrics.now.pairs)) _ w2 (rw (c.deref-2.ensures.value ∙ ap (λ s. s.pairs) c.metrics.view_is) at c.in_ok-put_kerning.ensures) in
    let b3 = c.put_composites.new.outlet in
    let w4 = Written-step (passing g.W.Write.contents) a b2 b3 _ (lines_text (composite_lines c.args.metrics.now.composites)) _ w3 (rw (c.deref-3.ensures.value ∙ ap (λ s. s.composites) c.metrics.view_is) at c.in_ok-put_composites.ensures) in
    Written-last (passing g.W.Write.contents) c.put_line.result a b3 c.put_line.new.outlet _ end_line w4 c.put_line.ensures
