use Rattle.std.proofs.Common.{◌≡◌, ◌∙◌, ap, map, subst}
use Rattle.std.specs.Prelude.{IfOk}
use Rattle.t1_faults.specs.CodeForms.{entry_in_text}
use Rattle.t1_faults.specs.Judging.{faults_among}
use Rattle.t1_faults.proofs.judging.faults_of_source.Goals as goal

pub returns : goal.returns
returns c =
    subst (λ es. IfOk c.faults_among.result (λ found. found.items ≡ faults_among c.args.source.now es)) (ap (map entry_in_text) c.deref.ensures.value ∙ c.in_ok-entries.ensures) c.faults_among.ensures
