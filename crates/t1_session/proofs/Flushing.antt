-- One answer that is written and passed on after another.
use Rattle.std.proofs.Common.{ℕ, List, [], ◌++◌, Option}
use Rattle.t1_code.specs.Counted.{Tally, WritesFront}
use Rattle.t1_code.proofs.Writing.{writing, WritesAll-append, WritesFront-append}
use Rattle.t1_session.specs.Flushing.{WritesAndFlushes}

module _ {W : Type 0} (contents : W → Option (List ℕ)) where
  pub flushes-none : (w : Tally W) → WritesAndFlushes contents w w []
  flushes-none w = record { writes = (writing contents).none w; flushed = λ h. h }

  pub flushes-append : (a b c : Tally W) (xs ys : List ℕ) → WritesAndFlushes contents a b xs → WritesAndFlushes contents b c ys → WritesAndFlushes contents a c (xs ++ ys)
  flushes-append a b c xs ys p q = record {
    writes = WritesAll-append contents a b c xs ys p.writes q.writes;
    flushed = λ h. q.flushed (p.flushed h);
  }

  -- and then a call fails within the next
  pub flushes-fails : (a b c : Tally W) (xs ys : List ℕ) → WritesAndFlushes contents a b xs → WritesFront contents b c ys → WritesFront contents a c (xs ++ ys)
  flushes-fails a b c xs ys p q = WritesFront-append contents a b c xs ys p.writes q
