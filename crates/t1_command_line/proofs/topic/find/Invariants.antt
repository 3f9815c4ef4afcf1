use Rattle.std.proofs.Common.{◌≡◌, drop}
use Rattle.t1_command_line.specs.Topics.{topic_in}
use Rattle.t1_command_line.proofs.topic.find.Given as goal

-- no topic so far has the code
abbrev pub invariant-loop-topic : goal.invariant-loop-topic
invariant-loop-topic l = topic_in (drop l.topic-index l.topics) l.code ≡ topic_in l.topics l.code
