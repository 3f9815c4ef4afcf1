use Rattle.std.proofs.Common.{◌≡◌, ℕ, List, take}
use Rattle.std.specs.Prelude.{◌&&◌}
use Rattle.t1_run.specs.Run.{Key}
use Rattle.t1_run.specs.Touched.{is_user}
use Rattle.t1_cache.specs.Renewed.{recorded_run}
use Rattle.t1_cache.specs.Users.{is_name_among, has_pair}
use Rattle.t1_cache.proofs.uses.leaves_of.Given as goal

-- what the glyphs so far leave
abbrev pub invariant-loop-name : goal.invariant-loop-name
invariant-loop-name l =
    (k : Key) (u : List ℕ) → has_pair l.pairs.items k u ≡ (is_name_among (λ name. name.now) (take l.name-index l.names) u && is_user k (recorded_run l.records u))
