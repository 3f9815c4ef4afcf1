use Rattle.std.proofs.Common.{[], ◌∷◌, length, refl}
use Rattle.std.specs.Prelude.{flat_map, decimal}
use Rattle.std.proofs.lemmas.Result.{err_from_is_err_and}
use Rattle.t1_afm.specs.Afm.{line_text}
use Rattle.t1_code.proofs.Writing.{passing, Written-from, Written-step, Written-fails, Written-last}
use Rattle.t1_afm.proofs.afm.put_section.Goals as goal

pub returns-in_err-put_line : goal.returns-in_err-put_line
returns-in_err-put_line g c =
    let a = c.args.outlet.now in
    let w0 = Written-from (passing g.W.Write.contents) a _ _ refl in
    rw (err_from_is_err_and c.from_residual.result c.from_residual.ensures.1).1 (Written-fails (passing g.W.Write.contents) a a c.put_line.new.outlet _ (line_text (c.args.start.now ∷ decimal (length c.args.parts.now) ∷ [])) _ w0 c.in_err-put_line.ensures)

pub returns-in_err-put_parts : goal.returns-in_err-put_parts
returns-in_err-put_parts g c =
    let a = c.args.outlet.now in
    let w0 = Written-from (passing g.W.Write.contents) a _ _ refl in
    let b0 = c.put_line.new.outlet in
    let w1 = Written-step (passing g.W.Write.contents) a a b0 _ (line_text (c.args.start.now ∷ decimal (length c.args.parts.now) ∷ [])) _ w0 c.in_ok-put_line.ensures in
    rw (err_from_is_err_and c.from_residual-in_err-put_parts.result c.from_residual-in_err-put_parts.ensures.1).1 (Written-fails (passing g.W.Write.contents) a b0 c.put_parts.new.outlet _ (flat_map g.P.Part.text c.args.parts.now) _ w1 c.in_err-put_parts.ensures)

pub returns : goal.returns
returns g c =
    let a = c.args.outlet.now in
    let w0 = Written-from (passing g.W.Write.contents) a _ _ refl in
    let b0 = c.put_line.new.outlet in
    let w1 = Written-step (passing g.W.Write.contents) a a b0 _ (line_text (c.args.start.now ∷ decimal (length c.args.parts.now) ∷ [])) _ w0 c.in_ok-put_line.ensures in
    let b1 = c.put_parts.new.outlet in
    let w2 = Written-step (passing g.W.Write.contents) a b0 b1 _ (flat_map g.P.Part.text c.args.parts.now) _ w1 c.in_ok-put_parts.ensures in
    Written-last (passing g.W.Write.contents) c.put_line-2.result a b1 c.put_line-2.new.outlet _ (line_text (c.args.end.now ∷ [])) w2 c.put_line-2.ensures
