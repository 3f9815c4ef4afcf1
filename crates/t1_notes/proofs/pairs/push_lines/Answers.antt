use Rattle.std.proofs.Common.{◌++◌, ◌∙◌, ap}
use Rattle.std.proofs.lemmas.Result.{on_ok_weaker}
use Rattle.t1_notes.specs.GlyphNames.{has_line_of_glyph}
use Rattle.t1_notes.specs.Tables.{is_among_names}
use Rattle.t1_notes.proofs.Naming.{same_pairs}
use Rattle.t1_notes.proofs.pairs.push_lines.Goals as goal

pub returns : goal.returns
returns c =
    let same = same_pairs (is_among_names c.in_ok-names.names.keys) (has_line_of_glyph c.args.heads.now) c.args.lines.now c.in_ok-names.ensures in
    on_ok_weaker c.push_pairs.result (λ added. added ∙ ap (λ ns. c.args.notes.now.items ++ ns) same) c.push_pairs.ensures
