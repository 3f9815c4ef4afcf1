-- Answers that are written and passed on.
use Rattle.std.specs.Prelude.{◌≡◌, ℕ, true, List, Option}
use Rattle.t1_code.specs.Counted.{Tally, WritesAll}

-- profile: the bytes went out, and where all that was written before them had been flushed, all is flushed after them
pub record WritesAndFlushes {W : Type 0} (contents : W → Option (List ℕ)) (old new : Tally W) (bytes : List ℕ) : Type 0 where
  pub writes : WritesAll contents old new bytes
  pub flushed : old.is_flushed ≡ true → new.is_flushed ≡ true
