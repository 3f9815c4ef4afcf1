use Rattle.std.proofs.Common.{ℕ, refl}
use Rattle.std.specs.Prelude.{nat_eq}
use Rattle.t1_run.specs.Run.{Subr}
use Rattle.t1_charstrings.proofs.KeySums.{once-kept}
use Rattle.t1_charstrings.proofs.edited_lines.subrs_len.Goals as goal

pub returns-clause-once : goal.returns-clause-once
returns-clause-once c = once-kept nat_eq (λ (n : ℕ). Subr n) (λ x y. refl) c.args.subrs.now.entries c.keys-number-items.ensures.unique
