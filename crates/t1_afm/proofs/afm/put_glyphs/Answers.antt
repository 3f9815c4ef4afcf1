use Rattle.std.specs.Prelude.{codes}
use Rattle.std.proofs.lemmas.Result.{err_from_is_err_and}
use Rattle.t1_afm.specs.Afm.{lines_text, value_lines, heights, char_line}
use Rattle.t1_afm.proofs.Sections.{section_text, glyphs_are}
use Rattle.t1_code.proofs.Writing.{passing, Written-from, Written-step, Written-fails, Written-last}
use Rattle.t1_afm.proofs.afm.put_glyphs.Goals as goal

pub returns-in_err-put_values : goal.returns-in_err-put_values
returns-in_err-put_values g c =
    let a = c.args.outlet.now in
    let w0 = Written-from (passing g.W.Write.contents) a _ _ (glyphs_are c.args.chars.now) in
    rw (err_from_is_err_and c.from_residual.result c.from_residual.ensures.1).1 (Written-fails (passing g.W.Write.contents) a a c.put_values.new.outlet _ (lines_text (value_lines (heights c.args.chars.now))) _ w0 (rw c.heights.ensures at c.in_err-put_values.ensures))

pub returns : goal.returns
returns g c =
    let a = c.args.outlet.now in
    let w0 = Written-from (passing g.W.Write.contents) a _ _ (glyphs_are c.args.chars.now) in
    let b0 = c.put_values.new.outlet in
    let w1 = Written-step (passing g.W.Write.contents) a a b0 _ (lines_text (value_lines (heights c.args.chars.now))) _ w0 (rw c.heights.ensures at c.in_ok-put_values.ensures) in
    Written-last (passing g.W.Write.contents) c.put_char_section.result a b0 c.put_char_section.new.outlet _ (section_text char_line (codes "StartCharMetrics") (codes "EndCharMetrics") c.args.chars.now) w1 c.put_char_section.ensures
