use Rattle.std.proofs.Common.{◌∙◌, ◌++◌, take, ap, sym, append_assoc, arith}
use Rattle.std.specs.Prelude.{◌||◌}
use Rattle.std.specs.Str.{bytes_eq}
use Rattle.std.proofs.Math.Bool.{or_assoc}
use Rattle.t1_cache.specs.Users.{is_name_among}
use Rattle.t1_font.proofs.Naming.{name-inserted}
use Rattle.t1_cache.proofs.Names.{one-more, inserted-after}
use Rattle.t1_cache.proofs.stale.add_users.Goals as goal

pub loop-name-preserved : goal.loop-name-preserved
loop-name-preserved c =
    let keys = c.loop-name.found.keys in
    let old = c.args.found.now.keys in
    let k = c.as_slice.result in
    let users = c.as_slice-name-items.result.now in
    let i = c.loop-name.name-index in
    let more = inserted-after (λ x y. bytes_eq x.now y.now) keys k in
    let was = c.loop-name.invariant in
    record {
      names = λ g.
          ap (λ ks. is_name_among (λ name. name.now) ks g) c.in_ok-insert.ensures.keys ∙ name-inserted (λ x. x.now) g k keys
          ∙ ap (λ b. b || bytes_eq g k.now) (was.names g)
          ∙ or_assoc (is_name_among (λ name. name.now) old g) (is_name_among (λ name. name.items) (take i users) g) (bytes_eq g k.now)
          ∙ ap (λ n. is_name_among (λ name. name.now) old g || (is_name_among (λ name. name.items) (take i users) g || bytes_eq g n)) c.as_slice.ensures.value
          ∙ sym (ap (λ b. is_name_among (λ name. name.now) old g || b) (one-more (λ name. name.items) g users i c.name-item.result (omega arith) c.name-item.is));
      after = (was.after.0 ++ more.0, c.in_ok-insert.ensures.keys ∙ more.1 ∙ ap (λ ks. ks ++ more.0) was.after.1 ∙ append_assoc old was.after.0 more.0);
    }
