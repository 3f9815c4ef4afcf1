use Rattle.std.proofs.Common.{◌≡◌, Err, None, Ok, Option, Result, Some, subst, sym}
use Rattle.std.specs.Prelude.{MatchOption}
use Rattle.std.specs.Result.{result_err}
use Rattle.t1_frac.specs.Outcome.{Gives, Refuses}
use Rattle.t1_frac.specs.declared.fault.Refusal.{Refusal}
use Rattle.t1_parts.specs.SourceParts.{SourceParts}
use Rattle.t1_source.specs.Changes.{changed}
use Rattle.t1_font.specs.SourceChecks.{source_check}
use Rattle.t1_session.proofs.refused.judged_edit.Goals as goal

judged : {A : Type 0} (r : Result A Refusal) (made : SourceParts) → Gives (λ _. tt {0}) r (source_check made)
    → MatchOption (result_err r) (source_check made ≡ Ok (tt {0})) (λ refusal. Refuses refusal (source_check made))
judged (Ok x) made h = h
judged (Err refusal) made h = h

pub returns-clause-checked : goal.returns-clause-checked
returns-clause-checked c =
    let made = (changed c.args.change.now c.args.source.now c.args.pairs.now).0 in
    subst (λ (r : Option Refusal). MatchOption r (source_check made ≡ Ok (tt {0})) (λ refusal. Refuses refusal (source_check made))) (sym c.err.ensures.value)
    (judged c.prepare_edit.result made c.prepare_edit.ensures.checked)

pub returns-clause-held : goal.returns-clause-held
returns-clause-held c = c.prepare_edit.ensures.held c.args.source.now c.requires.held

pub returns-clause-kept : goal.returns-clause-kept
returns-clause-kept c = c.prepare_edit.ensures.kept
