use Rattle.std.proofs.Common.{ℕ, ◌+◌, cond}
use Rattle.t1_cache.specs.declared.records.Records.{Records}
use Rattle.t1_run.specs.RunKeys.{key_eq}
use Rattle.t1_cache.specs.Users.{users_at, HasUserRoom}
use Rattle.t1_font.specs.OwnedKeys.{key_of}
use Rattle.t1_font.proofs.Keys.{at-key}
use Rattle.t1_cache.proofs.users.join.Goals as goal

pub returns-in-Subr-clause-room : goal.returns-in-Subr-clause-room
returns-in-Subr-clause-room c =
    let new : Records = record c.args.records.now { subrs = c.join_subr.new.subrs } in
    at-key (λ k. (count : ℕ) → HasUserRoom (cond (key_eq k (key_of c.args.named)) (count + 1) count) (users_at c.args.records.now k) → HasUserRoom count (users_at new k))
    (λ n count had. c.join_subr.ensures.room n count (rw c.in-Subr.is at had))
    (λ g count had. (rw c.in-Subr.is at had))

pub returns-in-Glyph-clause-room : goal.returns-in-Glyph-clause-room
returns-in-Glyph-clause-room c =
    let new : Records = record c.args.records.now { glyphs = c.join_glyph.new.glyphs } in
    at-key (λ k. (count : ℕ) → HasUserRoom (cond (key_eq k (key_of c.args.named)) (count + 1) count) (users_at c.args.records.now k) → HasUserRoom count (users_at new k))
    (λ n count had. (rw c.in-Glyph.is at had))
    (λ g count had. c.join_glyph.ensures.room g count (rw (c.in-Glyph.is, ← c.as_slice.ensures) at had))
