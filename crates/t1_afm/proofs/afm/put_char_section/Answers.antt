use Rattle.std.proofs.Common.{[], ◌∷◌, length, refl}
use Rattle.std.specs.Prelude.{codes, flat_map, decimal}
use Rattle.std.proofs.lemmas.Result.{err_from_is_err_and}
use Rattle.t1_afm.specs.Afm.{char_line, line_text}
use Rattle.t1_code.proofs.Writing.{passing, Written-from, Written-step, Written-fails, Written-last}
use Rattle.t1_afm.proofs.afm.put_char_section.Goals as goal

pub returns-in_err-put_line : goal.returns-in_err-put_line
returns-in_err-put_line g c =
    let a = c.args.outlet.now in
    let w0 = Written-from (passing g.W.Write.contents) a _ _ refl in
    rw (err_from_is_err_and c.from_residual.result c.from_residual.ensures.1).1 (Written-fails (passing g.W.Write.contents) a a c.put_line.new.outlet _ (line_text (codes "StartCharMetrics" ∷ decimal (length c.args.chars.now) ∷ [])) _ w0 c.in_err-put_line.ensures)

pub returns-in_err-put_chars : goal.returns-in_err-put_chars
returns-in_err-put_chars g c =
    let a = c.args.outlet.now in
    let w0 = Written-from (passing g.W.Write.contents) a _ _ refl in
    let b0 = c.put_line.new.outlet in
    let w1 = Written-step (passing g.W.Write.contents) a a b0 _ (line_text (codes "StartCharMetrics" ∷ decimal (length c.args.chars.now) ∷ [])) _ w0 c.in_ok-put_line.ensures in
    rw (err_from_is_err_and c.from_residual-in_err-put_chars.result c.from_residual-in_err-put_chars.ensures.1).1 (Written-fails (passing g.W.Write.contents) a b0 c.put_chars.new.outlet _ (flat_map (λ c. line_text (char_line c)) c.args.chars.now) _ w1 c.in_err-put_chars.ensures)

pub returns : goal.returns
returns g c =
    let a = c.args.outlet.now in
    let w0 = Written-from (passing g.W.Write.contents) a _ _ refl in
    let b0 = c.put_line.new.outlet in
    let w1 = Written-step (passing g.W.Write.contents) a a b0 _ (line_text (codes "StartCharMetrics" ∷ decimal (length c.args.chars.now) ∷ [])) _ w0 c.in_ok-put_line.ensures in
    let b1 = c.put_chars.new.outlet in
    let w2 = Written-step (passing g.W.Write.contents) a b0 b1 _ (flat_map (λ c. line_text (char_line c)) c.args.chars.now) _ w1 c.in_ok-put_chars.ensures in
    Written-last (passing g.W.Write.contents) c.put_line-2.result a b1 c.put_line-2.new.outlet _ (line_text (codes "EndCharMetrics" ∷ [])) w2 c.put_line-2.ensures
