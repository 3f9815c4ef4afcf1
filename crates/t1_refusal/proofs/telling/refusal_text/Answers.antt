use Rattle.std.proofs.Common.{◌≡◌, ◌∙◌, ap, subst}
use Rattle.std.specs.Prelude.{IfOk}
use Rattle.t1_refusal.specs.Telling.{refused_fault_lines}
use Rattle.t1_refusal.proofs.TellingLaws.{fault_told, nothing_told}
use Rattle.t1_refusal.proofs.telling.refusal_text.Goals as goal

pub returns-in_default : goal.returns-in_default
returns-in_default c = c.new.ensures.items ∙ nothing_told c.args.source.now c.in_ok-fault.field-0 c.in_ok-fault.ensures c.in_default.is

pub returns : goal.returns
returns c =
    let told = ap (λ items. refused_fault_lines items c.in-Some.fault) c.items.ensures ∙ fault_told c.args.source.now c.in_ok-fault.field-0 c.in-Some.fault c.in_ok-fault.ensures c.in-Some.is in
    subst (λ lines. IfOk c.fault_text.result (λ text. text.items ≡ lines)) told c.fault_text.ensures
