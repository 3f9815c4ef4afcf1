use Rattle.std.proofs.Common.{◌≡◌, List, ℕ, [], ◌∷◌, ◌++◌, ◌-◌, false, Ok, length, sym, ap, ◌∙◌, rules, arith}
use Rattle.std.specs.Prelude.{filter}
use Rattle.t1_text.specs.Lines.{lines}
use Rattle.t1_parts.specs.Sections.{subrs_line, glyphs_line}
use Rattle.t1_disassemble.specs.declared.fault.FontPlace.TheVariants.{Nowhere}
use Rattle.t1_disassemble.specs.declared.packed.Cut.{Cut}
use Rattle.t1_disassemble.specs.Kinds.{is_line_of}
use Rattle.t1_disassemble.specs.Outcome.{font_reported_at}
use Rattle.t1_disassemble.specs.Packed.{packed_text}
use Rattle.t1_disassemble.specs.SoundWords.{code_lines}
use Rattle.t1_disassemble.specs.Words.{words_of, words_of_encrypted}
use Rattle.t1_disassemble.specs.WordsOnto.{words_onto}
use Rattle.t1_disassemble.proofs.PackedLaws.{packed_cut, words_kept}
use Rattle.t1_disassemble.proofs.PackedWords.{words_behind, lines_are}
use Rattle.t1_disassemble.proofs.packed.PackedLines.add_words.Goals as goal

pub invariant_of-self-2 : goal.invariant_of-self-2
invariant_of-self-2 c =
    let i = c.self.inside in
    let code = c.split_at.result.1.now in
    let last : Cut = record { lines = c.len.result - i.cut; code = length code } in
    let words = c.push_words.new.text.items in
    let printed : font_reported_at Nowhere (words_onto [] false (words_of code)) ≡ Ok words = search rules in
    let same : c.deref-2.result.now ≡ code_lines code = c.deref-2.ensures.value ∙ sym (lines_are code words printed) in
    let some_subrs = c.section_counts-subrs.ensures.subrs ∙ ap (λ (t : List ℕ). length (filter (is_line_of subrs_line) (lines t))) same in
    let some_glyphs = c.section_counts-subrs.ensures.glyphs ∙ ap (λ (t : List ℕ). length (filter (is_line_of glyphs_line) (lines t))) same in
    let cuts : c.push_reserved.new.self.items ≡ i.cuts.items ++ last ∷ [] = search rules in
    let codes : c.extend_from_slice.new.self.items ≡ i.codes.items ++ code = search rules in
    let cut : c.len-self-inside.result ≡ length i.lines.items = search rules in
    rw (cuts, codes, cut, c.most_two-self-inside.ensures, c.most_two-self-inside-2.ensures)
    (words_kept i.cuts.items i.lines.items i.codes.items code last i.cut i.subrs i.glyphs _ _ c.self.invariant (omega (arith, c.self.invariant.within, c.len.ensures)) (search rules) some_subrs some_glyphs)

pub returns : goal.returns
unfolding words_of_encrypted
returns c =
    let i = c.self.inside in
    let code = c.split_at.result.1.now in
    let last : Cut = record { lines = c.len.result - i.cut; code = length code } in
    let words = c.push_words.new.text.items in
    let printed : font_reported_at Nowhere (words_onto [] false (words_of code)) ≡ Ok words = search rules in
    let same : code_lines code ≡ words = lines_are code words printed in
    let cuts : c.push_reserved.new.self.items ≡ i.cuts.items ++ last ∷ [] = search rules in
    let codes : c.extend_from_slice.new.self.items ≡ i.codes.items ++ code = search rules in
    let said : words_of_encrypted c.args.lead c.args.bytes.now ≡ words_of code = search rules in
    let text : packed_text (i.cuts.items ++ last ∷ []) i.lines.items (i.codes.items ++ code) ≡ c.args.self.now ++ words =
    packed_cut i.cuts.items i.lines.items i.codes.items code last (omega (arith, c.self.invariant.lines_before, c.self.invariant.within, c.len.ensures)) c.self.invariant.coded (search rules)
    ∙ ap (λ (l : List ℕ). packed_text i.cuts.items i.lines.items i.codes.items ++ l) same ∙ ap (λ (l : List ℕ). l ++ words) c.self.view_is in
    rw (cuts, codes, said, text) (words_behind c.args.self.now (words_of code) words printed)
