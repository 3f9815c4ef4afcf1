use Rattle.std.proofs.Common.{Vec, Global, ℕ, not, ap, sym, ◌∙◌}
use Rattle.std.specs.Prelude.{◌&&◌}
use Rattle.std.specs.Str.{bytes_eq}
use Rattle.t1_font.specs.declared.owned_key.OwnedKey.{OwnedKey}
use Rattle.t1_run.specs.RunKeys.{key_eq}
use Rattle.t1_cache.specs.Users.{has_pair, lists}
use Rattle.t1_font.specs.OwnedKeys.{key_of}
use Rattle.t1_cache.proofs.Adding.{left-last}
use Rattle.t1_cache.proofs.users.leave_all.Goals as goal

pub loop-named-preserved : goal.loop-named-preserved
loop-named-preserved c =
    let rest = c.pop.new.self.items in
    let p : OwnedKey × Vec ℕ Global = (c.in-Some.named, c.in-Some.name) in
    let reported = c.leave.ensures in
    let was = c.loop-named.invariant in
    let had = lists c.loop-named.records in
    record {
      users = λ k u.
          ap (λ b. b && not (has_pair rest k u))
          (reported.users k u ∙ ap (λ v. had k u && not (key_eq k (key_of c.in-Some.named) && bytes_eq u v)) c.as_slice.ensures.value)
          ∙ left-last rest p k u (had k u)
          ∙ sym (ap (λ l. had k u && not (has_pair l k u)) c.in-Some.ensures.items)
          ∙ was.users k u;
      room = λ k count had. reported.room k count (was.room k count had);
      rest = reported.rest ∙ was.rest;
    }
