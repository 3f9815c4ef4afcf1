use Rattle.std.proofs.Common.{◌+◌, ◌≤◌, ℕ, length, take, sym, ap, subst, arith, rules}
use Rattle.t1_disassemble.specs.KnownWords.{KnownText, HasBlank}
use Rattle.t1_disassemble.proofs.KnownWordLaws.{put_known, blank_kept}
use Rattle.t1_disassemble.proofs.known_word.KnownWord.put_on.Goals as goal

pub returns-clause-value : goal.returns-clause-value
returns-clause-value c is_open rest blank =
    let word = c.self.inside in
    let known : KnownText = record { first = word.first; text = take word.len word.bytes; is_number = word.is_number } in
    put_known known c.args.self.now.first (take c.args.len c.args.bytes.now) (take (c.args.len + 1) c.args.bytes.now) (take c.put_front-end.result c.put_front-end.new.bytes)
    is_open c.self.invariant.2 (ap (λ (k : KnownText). k.first) c.self.view_is) blank c.put_front-end.ensures.front rest

pub returns-clause-blank : goal.returns-clause-blank
returns-clause-blank c =
    let word = c.self.inside in
    let at = c.args.len + 1 in
    let within : at ≤ length c.args.bytes.now = search rules in
    subst (λ (n : ℕ). HasBlank n word.is_number c.put_front-end.new.bytes) (sym c.put_front-end.ensures.end)
    (blank_kept at 16 word.len c.args.bytes.now c.put_front-end.new.bytes word.bytes word.is_number (omega (arith, c.self.invariant.0)) within c.put_front-end.ensures.all c.self.invariant.1)
