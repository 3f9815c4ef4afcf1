use Rattle.std.proofs.Common.{◌≡◌, ◌∷◌, ◌++◌, List, ℕ, true, Ok, if◌then◌else◌, take, sym, ap, ◌∙◌, rules}
use Rattle.t1_disassemble.specs.KnownNumbers.{signed_digits}
use Rattle.t1_disassemble.specs.WordsOnto.{put_first}
use Rattle.t1_disassemble.proofs.NumberWords.{word_put}
use Rattle.t1_disassemble.proofs.known_number.put_known_number.Goals as goal

pub returns-clause-value : goal.returns-clause-value
returns-clause-value c = λ is_open. λ blank.
    let found = c.in-Some-short_number in
    let text = take c.args.len c.args.bytes.now in
    let second = c.in-Some.second.now in
    let after = c.in-Some.after.now in
    let word = signed_digits found.is_negative found.size in
    let rest : c.args.rest.now ≡ second ∷ after = search rules in
    let same = c.is_of.ensures c.if-not-is_of.false in
    let put = c.put_on.ensures.front is_open blank ∙ ap (λ n. text ++ (if is_open then 32 else 9) ∷ signed_digits found.is_negative n) same in
    ap (put_first text is_open c.args.first) rest ∙ word_put c.args.first second word text after is_open (found.ensures.read after) found.ensures.number
    ∙ ap (λ (l : List ℕ). Ok (l, true, after)) (sym put)
