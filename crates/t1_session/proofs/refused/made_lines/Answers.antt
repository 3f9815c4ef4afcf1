use Rattle.std.proofs.Common.{◌≡◌, ◌∙◌, ap, subst}
use Rattle.std.specs.Prelude.{IfOk}
use Rattle.t1_refusal.proofs.TellingLaws.{fault_told, nothing_told}
use Rattle.t1_session.specs.KeptRefusals.{fault_of_edited}
use Rattle.t1_session.proofs.refused.made_lines.Goals as goal

pub returns-in_default-clause-shown : goal.returns-in_default-clause-shown
returns-in_default-clause-shown c =
    c.new.ensures.items ∙ nothing_told c.args.made.now c.in_ok-fault.field-0 (c.in_ok-fault.ensures.fault ∙ ap fault_of_edited c.requires.made.1) c.in_default.is

pub fault_text-requires : goal.fault_text-requires
fault_text-requires c = record {
  old = c.args.source.now;
  right = c.in_ok-fault.ensures.held.right;
  made = record {
    pairs = c.args.pairs.now;
    made_pairs = c.requires.made.0;
    compiled = c.requires.held.encrypted.sound;
    well = c.source_is_well_formed.ensures;
    well_made = c.source_is_well_formed-2.ensures;
    made = c.requires.made.1;
  };
}

pub returns-clause-shown : goal.returns-clause-shown
returns-clause-shown c =
    let told = fault_told c.args.made.now c.in_ok-fault.field-0 c.in-Some.fault (c.in_ok-fault.ensures.fault ∙ ap fault_of_edited c.requires.made.1) c.in-Some.is in
    subst (λ lines. IfOk c.fault_text.result (λ text. text.items ≡ lines)) told c.fault_text.ensures
