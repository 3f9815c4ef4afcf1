use Rattle.std.proofs.Common.{◌≤◌, length, subst, arith}
use Rattle.t1_frac.specs.Words.{words}
use Rattle.t1_code.proofs.Counting.{words_within}
use Rattle.t1_disassemble.proofs.coded_text.CodedText.code_of.Goals as goal

pub returns-clause-few : goal.returns-clause-few
returns-clause-few c =
    let bytes = c.as_bytes-bytes.result.now in
    let within = words_within bytes in
    let few : length (words bytes) ≤ 65535 = omega (arith, within, c.if-bytes-gt-MAX_WORDS.false) in
    subst (λ ws. length ws ≤ 65535) c.as_bytes-bytes.ensures few
