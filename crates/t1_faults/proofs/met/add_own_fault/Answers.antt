use Rattle.std.proofs.Common.{◌≡◌, ◌∙◌, [], true, false, cond, Some, None, is_some, ap, rules}
use Rattle.std.specs.Option.{option_or}
use Rattle.std.specs.Str.{bytes_eq}
use Rattle.t1_chain.specs.Machine.{failure_seen}
use Rattle.t1_faults.specs.GlyphRuns.{own_kept, seen_run}
use Rattle.t1_faults.specs.Met.{last_entered, run_fault}
use Rattle.t1_faults.proofs.KeptLaws.{is_own, not_own}
use Rattle.t1_faults.proofs.met.add_own_fault.Goals as goal

pub returns-then-is_some : goal.returns-then-is_some
returns-then-is_some c = λ g.
    let last : is_some (last_entered (failure_seen c.args.run.now.failure).calls) ≡ true = search rules in
    not_own (seen_run c.args.run.now) g (own_kept c.args.faults.now.entries g) (run_fault [] (failure_seen c.args.run.now.failure)) last

pub returns : goal.returns
returns c = λ g.
    let last : is_some (last_entered (failure_seen c.args.run.now.failure).calls) ≡ false = search rules in
    c.in_ok-keep_own.ensures g
    ∙ ap (λ name. option_or (own_kept c.args.faults.now.entries g) (cond (bytes_eq g name) (Some (run_fault [] (failure_seen c.args.run.now.failure))) None)) c.as_slice.ensures
    ∙ is_own (seen_run c.args.run.now) g (own_kept c.args.faults.now.entries g) (run_fault [] (failure_seen c.args.run.now.failure)) last
