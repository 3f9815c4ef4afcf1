use Rattle.std.proofs.Common.{◌∙◌, ap}
use Rattle.t1_cache.specs.Users.{is_name_among}
use Rattle.t1_font.proofs.Naming.{name-inserted}
use Rattle.t1_rerun.specs.Steps.{takes_out}
use Rattle.t1_rerun.proofs.Leaving.{taken-more}
use Rattle.t1_rerun.proofs.changing.preparing.taken_out.Goals as goal

pub loop-step-preserved : goal.loop-step-preserved
loop-step-preserved c =
    let keys = c.loop-step.names.keys in
    let key = c.in_ok-from_slice.field-0 in
    let step = c.step-item.result in
    taken-more c.args.steps.now keys c.insert.new.self.keys key c.loop-step.step-index step c.loop-step.invariant
    (λ g. ap (λ ks. is_name_among (λ name. name.items) ks g) c.in_ok-insert.ensures.keys ∙ name-inserted (λ x. x.items) g key keys)
    c.loop-step-test.true c.step-item.is (ap (takes_out step) c.in_ok-from_slice.ensures.items ∙ c.in-Some.ensures)
