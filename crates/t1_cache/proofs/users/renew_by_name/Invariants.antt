use Rattle.std.proofs.Common.{◌≡◌, ℕ, List, map, length}
use Rattle.t1_cache.specs.Bodies.{glyph_body}
use Rattle.t1_cache.specs.Renewed.{reruns_by_name, with_reruns}
use Rattle.t1_cache.specs.Recorded.{kept_of}
use Rattle.t1_cache.specs.Users.{glyph_users}
use Rattle.t1_cache.proofs.users.renew_by_name.Given as goal

-- with those that are left, the records are as all will leave them
abbrev pub invariant-loop-name : goal.invariant-loop-name
invariant-loop-name l = record {
  records : with_reruns (reruns_by_name l.left.entries) (map kept_of l.glyphs.entries) ≡ with_reruns (reruns_by_name l.fn.runs.entries) (map kept_of l.fn.glyphs.entries);
  users : (p : List ℕ) → glyph_users l.glyphs.entries p ≡ glyph_users l.fn.glyphs.entries p;
  bodies : (p : List ℕ) → glyph_body l.glyphs.entries p ≡ glyph_body l.fn.glyphs.entries p;
}

abbrev pub decreases-loop-name : goal.decreases-loop-name
decreases-loop-name l = length l.left.entries
