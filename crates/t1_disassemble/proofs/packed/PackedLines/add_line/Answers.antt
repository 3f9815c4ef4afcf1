use Rattle.std.proofs.Common.{◌≡◌, List, ℕ, [], ◌∷◌, ◌++◌, length, ap, ◌∙◌, rules, arith}
use Rattle.std.proofs.Math.Seq.{drop-append_seam}
use Rattle.std.specs.Prelude.{filter}
use Rattle.t1_text.specs.Lines.{lines}
use Rattle.t1_parts.specs.Sections.{subrs_line, glyphs_line}
use Rattle.t1_disassemble.specs.Kinds.{is_line_of}
use Rattle.t1_disassemble.proofs.PackedLaws.{packed_more, parts_ended, line_kept}
use Rattle.t1_disassemble.proofs.packed.PackedLines.add_line.Goals as goal

pub invariant_of-self-2 : goal.invariant_of-self-2
invariant_of-self-2 c =
    let i = c.self.inside in
    let more = c.args.front.now ++ (c.args.middle.now ++ (c.args.back.now ++ 10 ∷ [])) in
    let grown : c.push_line_of.new.text.items ≡ i.lines.items ++ more = search rules in
    let added : c.split_at.result.1.now ≡ more = search (rules, drop-append_seam) in
    let some_subrs = c.section_counts-subrs.ensures.subrs ∙ ap (λ (t : List ℕ). length (filter (is_line_of subrs_line) (lines t))) added in
    let some_glyphs = c.section_counts-subrs.ensures.glyphs ∙ ap (λ (t : List ℕ). length (filter (is_line_of glyphs_line) (lines t))) added in
    rw (grown, c.most_two-self-inside.ensures, c.most_two-self-inside-2.ensures)
    (line_kept i.cuts.items i.lines.items i.codes.items more i.cut i.subrs i.glyphs _ _ c.self.invariant (parts_ended c.args.front.now c.args.middle.now c.args.back.now) some_subrs some_glyphs)

pub returns : goal.returns
returns c =
    let i = c.self.inside in
    let more = c.args.front.now ++ (c.args.middle.now ++ (c.args.back.now ++ 10 ∷ [])) in
    let grown : c.push_line_of.new.text.items ≡ i.lines.items ++ more = search rules in
    rw (grown, ← c.self.view_is)
    (packed_more i.cuts.items i.lines.items i.codes.items more (omega (arith, c.self.invariant.lines_before, c.self.invariant.within)))
