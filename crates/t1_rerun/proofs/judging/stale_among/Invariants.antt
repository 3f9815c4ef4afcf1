use Rattle.std.proofs.Common.{◌≡◌, ◌++◌, filter, map, drop}
use Rattle.t1_cache.specs.Users.{is_name_among}
use Rattle.t1_rerun.proofs.judging.stale_among.Given as goal

-- the stale names so far, in front of those among the names that are left
abbrev pub invariant-loop-name : goal.invariant-loop-name
invariant-loop-name l =
    map (λ name. name.now) l.stale.items ++ filter (is_name_among (λ name. name.now) l.found.keys) (map (λ name. name.now) (drop l.name-index l.names))
    ≡ filter (is_name_among (λ name. name.now) l.found.keys) (map (λ name. name.now) l.names)
