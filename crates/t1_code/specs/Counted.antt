-- Readers and writers that count their calls, and what calls over them leave.
use Rattle.std.specs.Prelude.{◌≡◌, ℕ, Bool, ◌+◌, ◌-◌, ◌^◌, min, List, ◌++◌, Option}
use Rattle.std.specs.Io.KnownBytes.{Appends}

-- profile: what contracts see of a reader or writer: itself, its failed calls, its reads, and whether nothing was written
-- since it was last flushed
pub record Tally (T : Type 0) : Type 0 where
  pub inner : T
  pub failures : ℕ
  pub turns : ℕ
  pub is_flushed : Bool

-- profile: a count of failures goes up to 2^64 - 1, and stays there
abbrev pub one_more : ℕ → ℕ
one_more failures = min (failures + 1) (2 ^ 64 - 1)

-- profile: known bytes grow by a beginning of these
abbrev pub AppendsFront : Option (List ℕ) → Option (List ℕ) → List ℕ → Type 0
AppendsFront old new bytes = (front : List ℕ) × (rest : List ℕ) × (bytes ≡ front ++ rest) × Appends old new front

-- profile: all the bytes went out, and no call failed
pub record WritesAll {W : Type 0} (contents : W → Option (List ℕ)) (old new : Tally W) (bytes : List ℕ) : Type 0 where
  pub appends : Appends (contents old.inner) (contents new.inner) bytes
  pub failures : new.failures ≡ old.failures
  pub turns : new.turns ≡ old.turns

-- profile: a beginning of the bytes went out, and then a call failed
pub record WritesFront {W : Type 0} (contents : W → Option (List ℕ)) (old new : Tally W) (bytes : List ℕ) : Type 0 where
  pub appends : AppendsFront (contents old.inner) (contents new.inner) bytes
  pub failures : new.failures ≡ one_more old.failures
  pub turns : new.turns ≡ old.turns
