use Rattle.std.proofs.Common.{◌≡◌, ℕ, List, None, Some, cond, drop}
use Rattle.std.specs.List.{list_any}
use Rattle.std.specs.Option.{option_or}
use Rattle.t1_faults.specs.Composites.{is_chain_of}
use Rattle.t1_faults.specs.GlyphRuns.{number_kept}
use Rattle.t1_faults.proofs.composites.keep_for_chains.Given as goal

-- what is kept so far, and of the chains that are left
abbrev pub invariant-loop-chain : goal.invariant-loop-chain
invariant-loop-chain l =
    (g : List ℕ)
    → option_or (number_kept l.numbers.entries g) (cond (list_any (is_chain_of g) (drop l.chain-index l.chains)) (Some l.number) None)
    ≡ option_or (number_kept l.fn.numbers.entries g) (cond (list_any (is_chain_of g) l.chains) (Some l.number) None)
