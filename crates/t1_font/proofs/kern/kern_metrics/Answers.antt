use Rattle.std.proofs.Common.{◌≡◌, ℕ, Bool, List, subst}
use Rattle.std.specs.Prelude.{filter_map, IfOk}
use Rattle.t1_font.specs.Metrics.{kern_of}
use Rattle.t1_font.proofs.kern.kern_metrics.Goals as goal

pub returns : goal.returns
returns c =
    subst (λ (has : List ℕ → Bool). IfOk c.pairs_among.result (λ found. found.items ≡ filter_map (kern_of has) c.args.pairs.now))
    (λ i. λ g. c.in_ok-names.ensures g i) c.pairs_among.ensures
