-- Calls that write, straight or through a chunk that waits.
use Rattle.std.specs.Prelude.{◌≡◌, ℕ, ◌+◌, ◌-◌, ◌^◌, nat_lt, if◌then◌else◌, List, ◌++◌, Option, Result, is_ok, MatchResult}
use Rattle.t1_code.specs.declared.outlet.Outlet.{Outlet}
use Rattle.t1_code.specs.Counted.{Tally, one_more, WritesAll, WritesFront}

-- word: a call that failed is counted
abbrev pub failures_after : {X E : Type 0} → Result X E → ℕ → ℕ
failures_after result failures = if is_ok result then failures else one_more failures

-- word: a reader is asked at most 2^63 - 1 times
abbrev pub max_turns : ℕ
max_turns = 2 ^ 63 - 1

-- word: a read is counted, as long as the reader may be asked
abbrev pub turns_after : ℕ → ℕ
turns_after turns = if nat_lt turns max_turns then turns + 1 else turns

-- word: a call that writes bytes: they all went out at Ok, and at Err a beginning of them, and a call failed
abbrev pub Writes : {W T E : Type 0} → (W → Option (List ℕ)) → Tally W → Tally W → List ℕ → Result T E → Type 0
Writes contents old new bytes result = MatchResult result (λ done. WritesAll contents old new bytes) (λ error. WritesFront contents old new bytes)

-- word: the bytes went after those that waited, of which a beginning went out to the same writer, and no call failed
pub record Passes {W : Type 0} (contents : W → Option (List ℕ)) (old new : Outlet W) (bytes : List ℕ) : Type 0 where
  pub same : new.out.ghost_name ≡ old.out.ghost_name
  pub sent : List ℕ
  pub parts : old.chunk ++ bytes ≡ sent ++ new.chunk
  pub writes : WritesAll contents old.out.now new.out.now sent

-- word: a beginning of what waited and of the bytes went out to the same writer, and then a call failed
pub record Stops {W : Type 0} (contents : W → Option (List ℕ)) (old new : Outlet W) (bytes : List ℕ) : Type 0 where
  pub same : new.out.ghost_name ≡ old.out.ghost_name
  pub writes : WritesFront contents old.out.now new.out.now (old.chunk ++ bytes)

-- word: a call that passes bytes on: they all passed at Ok, and at Err a beginning went out and a call failed
abbrev pub Puts : {W T E : Type 0} → (W → Option (List ℕ)) → Outlet W → Outlet W → List ℕ → Result T E → Type 0
Puts contents old new bytes result = MatchResult result (λ done. Passes contents old new bytes) (λ error. Stops contents old new bytes)
