use Rattle.std.proofs.Common.{◌+◌, ◌-◌, ◌<◌, ◌≤◌, length, get_or, ℕ, List, [], ap, arith}
use Rattle.std.specs.Borrow.{Bor}
use Rattle.t1_cache.specs.Users.{among, glyph_users, is_name_among}
use Rattle.t1_cache.proofs.Closing.{closing-first, closing-more, closing-bound, all_users}
use Rattle.t1_cache.proofs.Names.{names-once}
use Rattle.t1_cache.proofs.stale.close.Goals as goal

pub loop-at-init : goal.loop-at-init
loop-at-init c = closing-first (λ name. name.now) (λ p. among (glyph_users c.args.glyphs.now.entries p)) c.args.found.now.keys

pub loop-at-smaller : goal.loop-at-smaller
loop-at-smaller c =
    let bound : length c.loop-at.found.keys ≤ length c.args.found.now.keys + length (all_users c.args.glyphs.now.entries) =
    closing-bound (λ name. name.now) c.args.found.now.keys c.args.glyphs.now.entries c.loop-at.found.keys c.loop-at.at c.loop-at.invariant c.len.ensures.unique in
    let step : length c.args.found.now.keys + length (all_users c.args.glyphs.now.entries) - (c.loop-at.at + 1) < length c.args.found.now.keys + length (all_users c.args.glyphs.now.entries) - c.loop-at.at =
    omega (arith, bound, c.loop-at-test.true, c.len.ensures.len) in
    step

pub loop-at-preserved : goal.loop-at-preserved
loop-at-preserved c =
    let reported = c.in_ok-add_users_of.ensures in
    let h : c.loop-at.at < length c.loop-at.found.keys = omega (arith, c.loop-at-test.true, c.len.ensures.len) in
    let keys = c.loop-at.found.keys in
    let at = c.loop-at.at in
    closing-more (λ name. name.now) (is_name_among (λ name. name.now) c.args.found.now.keys) (λ p. among (glyph_users c.args.glyphs.now.entries p)) keys c.add_users_of.new.found.keys reported.after.0 at
    (record { ref_ptr = (0, 0); now = [] }) (get_or {A = Bor (List ℕ)} c.as_slice.result.now at (record { ref_ptr = (0, 0); now = [] })).now
    c.loop-at.invariant h (ap (λ l. (get_or {A = Bor (List ℕ)} l at (record { ref_ptr = (0, 0); now = [] })).now) c.as_slice.ensures.keys) reported.after.1 reported.names

pub returns-clause-once : goal.returns-clause-once
returns-clause-once c = names-once (λ name. name.now) c.loop-at.found.keys c.len.ensures.unique
