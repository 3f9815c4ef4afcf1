use Rattle.std.proofs.Common.{ap, ◌∙◌, List, ℕ, subst, append-nil}
use Rattle.t1_code.specs.Parts.{Prints}
use Rattle.t1_text.specs.Lines.{joined}
use Rattle.t1_font.specs.Assembly.{trailer_text}
use Rattle.t1_font.proofs.Filing.{outer_parts}
use Rattle.t1_font.proofs.assembly.write_private.Goals as goal

pub returns : goal.returns
returns g c =
    let file = g.F.FileForm.file c.args.form.now in
    let same = outer_parts file c.args.source.now c.args.private.now c.deref.result.now c.deref-2.result.now
    (c.deref.ensures.value ∙ c.in_ok-clear.ensures ∙ ap joined c.clear.ensures)
    (c.deref-2.ensures.value ∙ c.in_ok-trailer.ensures ∙ ap trailer_text c.tail.ensures) in
    rw same (subst (λ (text : List ℕ). Prints g.W.Write.contents c.args.out.now c.write_file.new.out (file c.deref.result.now text c.deref-2.result.now) c.write_file.result)
    (append-nil c.args.private.now) c.write_file.ensures.prints)
