use Rattle.std.proofs.Common.{◌≡◌, [], length, drop, sym, ap, ◌∙◌}
use Rattle.std.proofs.lemmas.Bool.{not-false}
use Rattle.std.proofs.lemmas.Slice.Eq.{bytes_eq-Decides}
use Rattle.std.specs.Str.{bytes_eq}
use Rattle.t1_frac.specs.Words.{words}
use Rattle.t1_disassemble.proofs.CodedLaws.{same_words}
use Rattle.t1_disassemble.proofs.coded_text.have_same_words.Goals as goal

pub returns : goal.returns
returns c = λ all.
    let kept = c.skip_blanks-kept.result.now in
    let rest = c.skip_blanks-rest.result.now in
    let front = c.split_at.result.0.now in
    let same : front ≡ kept = (bytes_eq-Decides front kept).0 (not-false (bytes_eq front kept) (sym c.ne.ensures ∙ c.if-ne.false)) in
    let behind : words (drop (length kept) rest) ≡ [] = ap words (sym c.split_at.ensures.back) ∙ c.in-None.ensures.value in
    same_words c.args.one.now c.args.other.now kept rest (length kept) c.skip_blanks-kept.ensures c.skip_blanks-rest.ensures (sym c.split_at.ensures.front ∙ same) behind
