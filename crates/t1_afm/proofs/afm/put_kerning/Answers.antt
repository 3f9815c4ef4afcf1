use Rattle.std.proofs.Common.{sym, ◌∙◌}
use Rattle.std.specs.Prelude.{codes}
use Rattle.std.proofs.lemmas.Result.{err_from_is_err_and}
use Rattle.t1_afm.specs.Afm.{pair_line}
use Rattle.t1_afm.proofs.Sections.{section_text, kerning_start, kerning_end, kerning_is}
use Rattle.t1_code.proofs.Writing.{passing, Written-from, Written-step, Written-fails, Written-last}
use Rattle.t1_afm.proofs.afm.put_kerning.Goals as goal

pub returns-in_err-put_line : goal.returns-in_err-put_line
returns-in_err-put_line g c =
    let a = c.args.outlet.now in
    let some = sym c.is_empty.ensures ∙ c.if-is_empty.false in
    let w0 = Written-from (passing g.W.Write.contents) a _ _ (kerning_is c.args.pairs.now some) in
    rw (err_from_is_err_and c.from_residual.result c.from_residual.ensures.1).1 (Written-fails (passing g.W.Write.contents) a a c.put_line.new.outlet _ kerning_start _ w0 c.in_err-put_line.ensures)

pub returns-in_err-put_section : goal.returns-in_err-put_section
returns-in_err-put_section g c =
    let a = c.args.outlet.now in
    let some = sym c.is_empty.ensures ∙ c.if-is_empty.false in
    let w0 = Written-from (passing g.W.Write.contents) a _ _ (kerning_is c.args.pairs.now some) in
    let b0 = c.put_line.new.outlet in
    let w1 = Written-step (passing g.W.Write.contents) a a b0 _ kerning_start _ w0 c.in_ok-put_line.ensures in
    rw (err_from_is_err_and c.from_residual-in_err-put_section.result c.from_residual-in_err-put_section.ensures.1).1 (Written-fails (passing g.W.Write.contents) a b0 c.put_section.new.outlet _ (section_text pair_line (codes "StartKernPairs") (codes "EndKernPairs") c.args.pairs.now) _ w1 c.in_err-put_section.ensures)

pub returns : goal.returns
returns g c =
    let a = c.args.outlet.now in
    let some = sym c.is_empty.ensures ∙ c.if-is_empty.false in
    let w0 = Written-from (passing g.W.Write.contents) a _ _ (kerning_is c.args.pairs.now some) in
    let b0 = c.put_line.new.outlet in
    let w1 = Written-step (passing g.W.Write.contents) a a b0 _ kerning_start _ w0 c.in_ok-put_line.ensures in
    let b1 = c.put_section.new.outlet in
    let w2 = Written-step (passing g.W.Write.contents) a b0 b1 _ (section_text pair_line (codes "StartKernPairs") (codes "EndKernPairs") c.args.pairs.now) _ w1 c.in_ok-put_section.ensures in
    Written-last (passing g.W.Write.contents) c.put_line-2.result a b1 c.put_line-2.new.outlet _ kerning_end w2 c.put_line-2.ensures
