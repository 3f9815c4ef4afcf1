use Rattle.std.proofs.Common.{◌≡◌, ℕ, List, [], ◌++◌, take, false, Ok, sym, ap, ◌∙◌, rules}
use Rattle.std.proofs.lemmas.List.{nil_from_length}
use Rattle.t1_disassemble.specs.Outcome.{font_reported_at}
use Rattle.t1_disassemble.specs.declared.fault.FontPlace.TheVariants.{Nowhere}
use Rattle.t1_disassemble.specs.Words.{words_of, printed_words}
use Rattle.t1_disassemble.specs.WordsOnto.{words_onto}
use Rattle.t1_disassemble.proofs.Reading.{push_none}
use Rattle.t1_disassemble.proofs.charstring.push_words.Goals as goal

pub returns : goal.returns
returns c =
    let nothing : c.loop-first.rest.now ≡ [] = nil_from_length _ (search rules) in
    let before = c.loop-first.text.items ++ take c.loop-first.len c.loop-first.bytes in
    let sent : c.extend_from_slice.new.self.items ≡ before = search rules in
    let ended : c.end_line.new.text.items ≡ c.extend_from_slice.new.self.items ++ printed_words c.loop-first.is_open [] = search rules in
    let all : words_onto c.args.text.now.items false (words_of c.args.code.now) ≡ Ok c.end_line.new.text.items =
    sym c.loop-first.invariant.0 ∙ ap (λ (r : List ℕ). words_onto before c.loop-first.is_open (words_of r)) nothing ∙ push_none _ _
    ∙ ap (λ (l : List ℕ). Ok (l ++ printed_words c.loop-first.is_open [])) (sym sent) ∙ ap Ok (sym ended)
    in
    ap (font_reported_at Nowhere) all
