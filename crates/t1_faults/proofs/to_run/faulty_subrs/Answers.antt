use Rattle.std.proofs.Common.{◌≡◌, ◌∙◌, ◌||◌, filter, ap, rules}
use Rattle.std.specs.List.{list_any}
use Rattle.t1_parts.specs.Stretches.{stands_alone}
use Rattle.t1_faults.specs.Failing.{is_faulty_subr}
use Rattle.t1_run.specs.RunKeys.{has_number}
use Rattle.t1_faults.proofs.ToRunLaws.{faulty_alone}
use Rattle.t1_faults.proofs.to_run.faulty_subrs.Goals as goal

pub loop-item-init : goal.loop-item-init
loop-item-init c =
    let all : c.into_iter-item-iterator.result ≡ filter stands_alone c.args.items.now = search rules in (
      tt,
      tt,
      λ n.
          ap (λ ks. has_number ks n || list_any (is_faulty_subr n) c.into_iter-item-iterator.result) c.new-faulty.ensures.empty
          ∙ ap (list_any (is_faulty_subr n)) all
          ∙ faulty_alone n c.args.items.now,
    )
