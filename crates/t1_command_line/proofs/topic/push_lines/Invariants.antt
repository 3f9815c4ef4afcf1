use Rattle.std.proofs.Common.{◌≡◌, ◌++◌, string_bytes, drop}
use Rattle.t1_command_line.specs.Topics.{topics_lines}
use Rattle.t1_command_line.proofs.topic.push_lines.Given as goal

-- the text with the lines that are left is the whole
abbrev pub invariant-loop-topic : goal.invariant-loop-topic
invariant-loop-topic l = string_bytes l.text ++ topics_lines (drop l.topic-index l.topics) ≡ string_bytes l.fn.text ++ topics_lines l.topics
