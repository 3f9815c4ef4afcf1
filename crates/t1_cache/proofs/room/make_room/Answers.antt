use Rattle.std.proofs.Common.{Vec, Global, ℕ, ◌∙◌, ◌+◌, ap, arith, cond, subst, sym, take}
use Rattle.std.proofs.lemmas.List.{take_all}
use Rattle.t1_run.specs.Run.{Key}
use Rattle.t1_run.specs.RunKeys.{key_eq}
use Rattle.t1_font.specs.declared.owned_key.OwnedKey.{OwnedKey}
use Rattle.t1_cache.specs.Room.{MayJoin}
use Rattle.t1_cache.specs.Users.{users_at, pairs_of_key}
use Rattle.t1_font.specs.OwnedKeys.{key_of}
use Rattle.t1_cache.proofs.Rooming.{room-more, roomier-twice, wanted-more}
use Rattle.t1_cache.proofs.room.make_room.Goals as goal

pub loop-named-preserved : goal.loop-named-preserved
loop-named-preserved c =
    let joins = c.args.joins.now in
    let i = c.loop-named.named-index in
    let item : OwnedKey × Vec ℕ Global = c.loop-named-item.result in
    let key = key_of item.0 in
    let old = users_at c.loop-named.records in
    let new = users_at c.make_room_at.new.records in
    let reported = c.in_ok-make_room_at.ensures in
    let was = c.loop-named.invariant in
    let more = λ (k : Key). wanted-more joins i item k c.loop-named-test.true c.loop-named-item.is in
    record {
      counts = λ k. reported.counts k ∙ ap (λ n. cond (key_eq k key) (n + 1) n) (was.counts k) ∙ sym (more k);
      room = λ k.
          subst (λ n. MayJoin n (new k)) (sym (more k))
          (room-more old new key (pairs_of_key (take i joins)) reported.sets (subst (λ n. MayJoin (n + 1) (new key)) (was.counts key) reported.room) was.room k);
      sets = λ k. roomier-twice (users_at c.args.records.now k) (old k) (new k) (was.sets k) (reported.sets k);
      rest = reported.rest ∙ was.rest;
    }

pub returns-clause-room : goal.returns-clause-room
returns-clause-room c = λ k.
    subst (λ l. MayJoin (pairs_of_key l k) (users_at c.loop-named.records k))
    (take_all c.loop-named.named-index c.args.joins.now (omega arith)) (c.loop-named.invariant.room k)
