use Rattle.std.proofs.Common.{◌≡◌, ℕ, List, take}
use Rattle.std.specs.List.{list_any}
use Rattle.t1_cache.specs.Users.{is_name_among}
use Rattle.t1_cache.specs.Tables.{is_seed}
use Rattle.t1_cache.proofs.stale.found.Given as goal

-- the seeds so far
abbrev pub invariant-loop-named : goal.invariant-loop-named
invariant-loop-named l = (g : List ℕ) → is_name_among (λ name. name.now) l.found.keys g ≡ list_any (is_seed l.records g) (take l.named-index l.edits)
