use Rattle.std.proofs.Common.{◌≡◌, drop}
use Rattle.t1_command_line.specs.Topics.{topic_of}
use Rattle.t1_command_line.proofs.topic.find_in.Given as goal

-- no section so far has the code
abbrev pub invariant-loop-section : goal.invariant-loop-section
invariant-loop-section l = topic_of (drop l.section-index l.sections) l.code ≡ topic_of l.sections l.code
