use Rattle.std.proofs.Common.{◌≡◌, ◌++◌, string_bytes, drop}
use Rattle.t1_command_line.specs.Topics.{other_sections_text}
use Rattle.t1_command_line.proofs.topic.push_others.Given as goal

-- the text with the sections that are left is the whole
abbrev pub invariant-loop-section : goal.invariant-loop-section
invariant-loop-section l = string_bytes l.text ++ other_sections_text (drop l.section-index l.sections) ≡ string_bytes l.fn.text ++ other_sections_text l.sections
