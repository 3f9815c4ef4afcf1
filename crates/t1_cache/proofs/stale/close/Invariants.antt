use Rattle.std.proofs.Common.{◌+◌, ◌-◌, length}
use Rattle.t1_cache.specs.Users.{among, glyph_users, is_name_among}
use Rattle.t1_cache.proofs.Closing.{IsClosing, all_users}
use Rattle.t1_cache.proofs.stale.close.Given as goal

abbrev pub invariant-loop-at : goal.invariant-loop-at
invariant-loop-at l = IsClosing (λ name. name.now) (is_name_among (λ name. name.now) l.fn.found.keys) (λ p. among (glyph_users l.glyphs.entries p)) l.found.keys l.at

-- each name is one that was there or a user
abbrev pub decreases-loop-at : goal.decreases-loop-at
decreases-loop-at l = length l.fn.found.keys + length (all_users l.glyphs.entries) - l.at
