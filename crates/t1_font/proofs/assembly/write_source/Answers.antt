use Rattle.std.proofs.Common.{List, ℕ, Ok, sym, ap, refl, ◌∙◌}
use Rattle.t1_text.specs.Lines.{joined}
use Rattle.t1_parts.specs.Operator.{operator_among}
use Rattle.t1_font.specs.Assembly.{trailer_text}
use Rattle.t1_font.proofs.Filing.{source_parts}
use Rattle.t1_font.proofs.assembly.write_source.Goals as goal

pub returns : goal.returns
returns g c =
    let s = c.args.source.now in
    let same = source_parts (g.F.FileForm.file c.args.form.now) s c.lead.result c.operator_of.result.now c.items-2.result.now
    c.deref.result.now (joined s.clear) (trailer_text s.tail)
    c.lead.ensures (c.operator_of.ensures ∙ ap operator_among (c.iter.ensures.items ∙ c.items.ensures)) c.items-2.ensures (c.in_ok-private.ensures ∙ ap (λ (text : List ℕ). Ok text) (sym c.deref.ensures.value)) refl refl in
    rw same c.write_private.ensures
