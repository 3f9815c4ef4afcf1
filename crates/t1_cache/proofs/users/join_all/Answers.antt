use Rattle.std.proofs.Common.{Vec, Global, ℕ, ◌≡◌, ◌+◌, cond, ap, sym, subst, ◌∙◌, arith}
use Rattle.std.specs.Prelude.{◌||◌}
use Rattle.t1_font.specs.declared.owned_key.OwnedKey.{OwnedKey}
use Rattle.t1_cache.specs.Users.{has_pair, lists, users_at, pairs_of_key, HasUserRoom}
use Rattle.t1_font.specs.OwnedKeys.{key_of}
use Rattle.t1_font.proofs.Keys.{key-itself}
use Rattle.t1_cache.proofs.Adding.{less-room, wanted-last, joined-last}
use Rattle.t1_cache.proofs.users.join_all.Goals as goal

pub join-requires : goal.join-requires
join-requires c =
    let rest = c.pop.new.self.items in
    let p : OwnedKey × Vec ℕ Global = (c.in-Some.named, c.in-Some.name) in
    let key = key_of c.in-Some.named in
    let all : pairs_of_key c.loop-named.left.items key ≡ pairs_of_key rest key + 1 =
    ap (λ l. pairs_of_key l key) c.in-Some.ensures.items ∙ wanted-last rest p key
    ∙ ap (λ b. cond b (pairs_of_key rest key + 1) (pairs_of_key rest key)) (key-itself key) in
    less-room 1 (pairs_of_key c.loop-named.left.items key) (users_at c.loop-named.records key) (omega (arith, all)) (c.loop-named.invariant.room key)

pub loop-named-preserved : goal.loop-named-preserved
loop-named-preserved c =
    let rest = c.pop.new.self.items in
    let p : OwnedKey × Vec ℕ Global = (c.in-Some.named, c.in-Some.name) in
    let reported = c.join.ensures in
    let was = c.loop-named.invariant in
    let had = lists c.loop-named.records in
    record {
      room = λ k.
          reported.room k (pairs_of_key rest k)
          (subst (λ n. HasUserRoom n (users_at c.loop-named.records k)) (ap (λ l. pairs_of_key l k) c.in-Some.ensures.items ∙ wanted-last rest p k) (was.room k));
      users = λ k u.
          ap (λ b. b || has_pair rest k u) (reported.users k u)
          ∙ joined-last rest p k u (had k u)
          ∙ sym (ap (λ l. had k u || has_pair l k u) c.in-Some.ensures.items)
          ∙ was.users k u;
      rest = reported.rest ∙ was.rest;
    }
