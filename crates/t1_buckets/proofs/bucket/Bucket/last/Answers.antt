use Rattle.std.proofs.Common.{rules, ◌-◌, length, ap, sym, ◌∙◌, arith}
use Rattle.std.specs.List.{slice_index_or}
use Rattle.std.proofs.lemmas.List.{get_or_read}
use Rattle.t1_buckets.proofs.bucket.Bucket.last.Goals as goal

pub returns-clause-value : goal.returns-clause-value
returns-clause-value g c d =
    let xs = c.self.inside.elements.items in
    ap (λ t. slice_index_or t (length t - 1) d) (sym c.self.view_is)
    ∙ sym (get_or_read xs (length xs - 1) c.index.result.now (omega (arith, c.self.invariant)) (search rules) d)
