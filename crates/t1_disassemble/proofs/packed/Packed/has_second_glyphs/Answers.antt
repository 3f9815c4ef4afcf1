use Rattle.std.proofs.Common.{List, ℕ, ap, ◌∙◌}
use Rattle.t1_parts.specs.Sections.{glyphs_line}
use Rattle.t1_text.specs.Lines.{lines}
use Rattle.t1_disassemble.specs.Kinds.{has_second}
use Rattle.t1_disassemble.specs.Packed.{packed_text}
use Rattle.t1_disassemble.proofs.PackedLaws.{over_one}
use Rattle.t1_disassemble.proofs.packed.Packed.has_second_glyphs.Goals as goal

pub returns : goal.returns
returns c =
    let inside = c.self.inside in
    over_one glyphs_line (packed_text inside.cuts.items inside.lines.items inside.codes.items) inside.glyphs c.self.invariant.glyphs_are
    ∙ ap (λ (text : List ℕ). has_second glyphs_line (lines text)) c.self.view_is
