use Rattle.std.proofs.Common.{Vec, Global, ◌∙◌, ◌+◌, ap, arith, cond, sym}
use Rattle.std.proofs.lemmas.List.{take_all}
use Rattle.t1_font.specs.declared.owned_key.OwnedKey.{OwnedKey}
use Rattle.t1_run.specs.RunKeys.{key_eq}
use Rattle.t1_cache.specs.Users.{pairs_of_key}
use Rattle.t1_font.specs.OwnedKeys.{key_of}
use Rattle.t1_cache.proofs.Rooming.{wanted-more}
use Rattle.t1_cache.proofs.room.count_joins.Goals as goal

pub loop-named-preserved : goal.loop-named-preserved
loop-named-preserved c = λ k.
    let item : OwnedKey × Vec _ Global = c.loop-named-item.result in
    c.in_ok-count_join.ensures k
    ∙ ap (λ n. cond (key_eq k (key_of item.0)) (n + 1) n) (c.loop-named.invariant k)
    ∙ sym (wanted-more c.args.joins.now c.loop-named.named-index item k c.loop-named-test.true c.loop-named-item.is)

pub returns : goal.returns
returns c = λ k. c.loop-named.invariant k ∙ ap (λ l. pairs_of_key l k) (take_all c.loop-named.named-index c.args.joins.now (omega arith))
