use Rattle.std.proofs.Common.{take, ap}
use Rattle.t1_disassemble.specs.KnownWords.{KnownText}
use Rattle.t1_disassemble.proofs.KnownWordLaws.{put_known}
use Rattle.t1_disassemble.proofs.known_word.KnownWord.put.Goals as goal

pub returns-clause-value : goal.returns-clause-value
returns-clause-value c rest =
    let known : KnownText = record { first = c.self.inside.first; text = take c.self.inside.len c.self.inside.bytes; is_number = c.self.inside.is_number } in
    put_known known c.args.self.now.first (take c.args.len c.args.bytes.now) (take c.put_blank-at.result c.put_blank-at.new.bytes) (take c.put_front-end.result c.put_front-end.new.bytes)
    c.args.is_open c.self.invariant.2 (ap (λ (k : KnownText). k.first) c.self.view_is) c.put_blank-at.ensures.front c.put_front-end.ensures.front rest
