use Rattle.std.proofs.Common.{◌≡◌, ℕ, List, None, take}
use Rattle.std.specs.Prelude.{◌&&◌, ◌||◌}
use Rattle.std.specs.Str.{bytes_eq}
use Rattle.t1_run.specs.Footprint.{asks}
use Rattle.t1_run.specs.Run.{Key}
use Rattle.t1_cache.specs.Users.{has_pair}
use Rattle.t1_cache.proofs.uses.push_entered.Given as goal

-- the Subrs so far
abbrev pub invariant-loop-number : goal.invariant-loop-number
invariant-loop-number l =
    (k : Key) (u : List ℕ) → has_pair l.pairs.items k u ≡ (has_pair l.fn.pairs.items k u || (asks None (take l.number-index l.entered) k && bytes_eq u l.name))
