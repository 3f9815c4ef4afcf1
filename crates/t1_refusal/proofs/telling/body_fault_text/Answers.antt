use Rattle.std.proofs.Common.{ap, ◌++◌, ◌∙◌}
use Rattle.t1_refusal.specs.Telling.{refused_fault_lines}
use Rattle.t1_refusal.proofs.telling.body_fault_text.Goals as goal

pub returns : goal.returns
returns c = c.in_ok-push_word_lines.ensures ∙ ap (λ text. text ++ refused_fault_lines c.args.items.now c.args.fault.now) c.new-text.ensures.items
