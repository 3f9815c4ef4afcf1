use Rattle.t1_cache.specs.Users.{pairs_of_key}
use Rattle.t1_cache.proofs.users.move_users.Goals as goal

pub join_all-requires : goal.join_all-requires
join_all-requires c = λ k. c.leave_all.ensures.room k (pairs_of_key c.args.joins.items k) (c.requires k)
