use Rattle.std.proofs.Common.{ℕ}
use Rattle.t1_cache.specs.declared.records.Records.{Records}
use Rattle.t1_cache.specs.Users.{users_at, HasUserRoom}
use Rattle.t1_font.proofs.Keys.{at-key}
use Rattle.t1_cache.proofs.users.leave.Goals as goal

pub returns-in-Subr-clause-room : goal.returns-in-Subr-clause-room
returns-in-Subr-clause-room c =
    let new : Records = record c.args.records.now { subrs = c.leave_subr.new.subrs } in
    at-key (λ k. (count : ℕ) → HasUserRoom count (users_at c.args.records.now k) → HasUserRoom count (users_at new k))
    (λ n count had. c.leave_subr.ensures.room n count had)
    (λ g count had. had)

pub returns-in-Glyph-clause-room : goal.returns-in-Glyph-clause-room
returns-in-Glyph-clause-room c =
    let new : Records = record c.args.records.now { glyphs = c.leave_glyph.new.glyphs } in
    at-key (λ k. (count : ℕ) → HasUserRoom count (users_at c.args.records.now k) → HasUserRoom count (users_at new k))
    (λ n count had. had)
    (λ g count had. c.leave_glyph.ensures.room g count had)
