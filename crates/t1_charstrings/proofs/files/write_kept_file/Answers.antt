use Rattle.std.proofs.Common.{ap, refl, ◌∙◌}
use Rattle.std.specs.List.{flat_map}
use Rattle.t1_text.specs.Lines.{joined}
use Rattle.t1_code.specs.Parts.{piece_text}
use Rattle.t1_font.specs.Assembly.{trailer_text}
use Rattle.t1_charstrings.specs.Lines.{made_text}
use Rattle.t1_charstrings.proofs.Filed.{kept_file}
use Rattle.t1_charstrings.proofs.files.write_kept_file.Goals as goal

pub returns : goal.returns
returns g c =
    let s = c.args.source.now in
    let pieces_are = ap (flat_map piece_text) c.deref-2.ensures.value ∙ c.in_ok-pieces.ensures ∙ ap (flat_map made_text) c.deref.ensures.value in
    let same = kept_file (g.F.FileForm.file c.args.form.now) s c.args.charstrings.now c.operator.result.now c.items.result.now
    (flat_map piece_text c.deref-2.result.now) (joined s.clear) (trailer_text s.tail) c.requires.well c.requires.kept
    c.operator.ensures c.items.ensures (pieces_are ∙ c.in_ok-lines.ensures) refl refl in
    rw same c.write_pieces.ensures
