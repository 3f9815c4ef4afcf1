use Rattle.std.proofs.Common.{◌≡◌, [], ◌∷◌, ◌++◌, false, Ok, rules}
use Rattle.t1_disassemble.specs.declared.fault.FontPlace.TheVariants.{Nowhere}
use Rattle.t1_disassemble.specs.Outcome.{font_reported_at}
use Rattle.t1_disassemble.specs.Words.{words_of}
use Rattle.t1_disassemble.specs.WordsOnto.{words_onto}
use Rattle.t1_disassemble.proofs.CodedLaws.{Last, body_added}
use Rattle.t1_disassemble.proofs.coded_text.CodedTextLines.add_words.Goals as goal

pub invariant_of-self-2 : goal.invariant_of-self-2
invariant_of-self-2 c =
    let i = c.self.inside in
    let code = c.split_at.result.1.now in
    let text = c.push_words.new.text.items in
    let printed : font_reported_at Nowhere (words_onto i.text.items false (words_of code)) ≡ Ok text = search rules in
    let codes : c.extend_from_slice.new.self.items ≡ i.codes.items ++ code = search rules in
    let bodies : c.push_reserved.new.self.items ≡ i.bodies.items ++ Last i.text.items i.codes.items code text ∷ [] = search rules in
    rw (codes, bodies) (body_added i.text.items i.codes.items code text i.bodies.items c.self.invariant printed)
