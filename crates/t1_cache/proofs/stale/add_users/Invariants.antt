use Rattle.std.proofs.Common.{◌≡◌, ◌||◌, ◌++◌, ℕ, List, take}
use Rattle.t1_cache.specs.Users.{is_name_among}
use Rattle.t1_cache.proofs.stale.add_users.Given as goal

-- the users so far are there, after the names that were
abbrev pub invariant-loop-name : goal.invariant-loop-name
invariant-loop-name l = record {
  names : (g : List ℕ) → is_name_among (λ name. name.now) l.found.keys g ≡ (is_name_among (λ name. name.now) l.fn.found.keys g || is_name_among (λ name. name.items) (take l.name-index l.name-items) g);
  after : (more : List _) × (l.found.keys ≡ l.fn.found.keys ++ more);
}
