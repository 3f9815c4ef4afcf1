use Rattle.std.proofs.Common.{sym, ◌∙◌}
use Rattle.std.specs.Prelude.{codes}
use Rattle.t1_afm.specs.Afm.{composite_line}
use Rattle.t1_afm.proofs.Sections.{section_text, composites_are}
use Rattle.t1_code.proofs.Writing.{passing, Written-from, Written-last}
use Rattle.t1_afm.proofs.afm.put_composites.Goals as goal

pub returns : goal.returns
returns g c =
    let a = c.args.outlet.now in
    let some = sym c.is_empty.ensures ∙ c.if-is_empty.false in
    let w0 = Written-from (passing g.W.Write.contents) a _ _ (composites_are c.args.composites.now some) in
    Written-last (passing g.W.Write.contents) c.put_section.result a a c.put_section.new.outlet _ (section_text composite_line (codes "StartComposites") (codes "EndComposites") c.args.composites.now) w0 c.put_section.ensures
