use Rattle.std.proofs.Common.{length, ap, sym, arith}
use Rattle.t1_text.specs.Lines.{joined}
use Rattle.t1_code.proofs.Encrypting.{length-eexec}
use Rattle.t1_font.proofs.LengthLaws.{long_reported, short_reported}
use Rattle.t1_font.proofs.lengths.check_parts.Goals as goal

pub returns-then-max-gt-MAX_PART : goal.returns-then-max-gt-MAX_PART
returns-then-max-gt-MAX_PART c = λ s clear_is tail_is known.
    rw c.from.ensures
    (sym (long_reported s known.0 known.1
    (omega (arith, known.2, length-eexec known.0, ap (λ lines. length (joined lines)) clear_is, ap (λ lines. length (joined lines)) tail_is))))

pub returns : goal.returns
returns c = λ s clear_is tail_is known.
    sym (short_reported s known.0 known.1
    (omega (arith, known.2, length-eexec known.0, ap (λ lines. length (joined lines)) clear_is, ap (λ lines. length (joined lines)) tail_is)))
