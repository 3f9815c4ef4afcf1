use Rattle.std.proofs.Common.{Some, refl, subst, sym}
use Rattle.t1_charstrings.specs.Beside.{IsKeptBeside}
use Rattle.t1_held.specs.Batch.{count_begin}
use Rattle.t1_held.proofs.Drafting.{first-draft}
use Rattle.t1_held.proofs.batch.Batch.of.Goals as goal

pub returns-clause-draft : goal.returns-clause-draft
returns-clause-draft c = λ well.
    let s = c.args.source.now in
    record {
      edited = first-draft s c.in_ok-copied.field-0 c.new.result.items c.in_ok-copied.ensures c.new.ensures.items well;
      beside = subst (λ t. IsKeptBeside s count_begin t (Some count_begin)) (sym c.in_ok-copied.ensures) refl;
    }
