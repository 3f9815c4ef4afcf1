use Rattle.std.proofs.Common.{◌≡◌, ◌∙◌, ◌++◌, codes, string_bytes, ap, refl}
use Rattle.t1_command_line.specs.Topics.{topic_line}
use Rattle.t1_command_line.specs.declared.topic.Topic.{Topic}
use Rattle.t1_command_line.proofs.Texts.{added, four}
use Rattle.t1_command_line.proofs.topic.push_line.Goals as goal

line_is : (topic : Topic) → topic.code.now ++ (codes ": " ++ (topic.meaning.now ++ codes "\n")) ≡ topic_line topic
unfolding topic_line
line_is topic = refl

pub returns : goal.returns
returns c =
    let before = string_bytes c.push_str-3.new.self in
    added c.push_str-4.result before _ (codes "\n") _ c.push_str-4.ensures.bytes
    (four _ _ _ before _ _ _ (codes "\n") c.in_ok-push_str.ensures.bytes c.in_ok-push_str-2.ensures.bytes c.in_ok-push_str-3.ensures.bytes
    ∙ ap (λ line. string_bytes c.args.text.now ++ line) (line_is c.args.topic.now))
