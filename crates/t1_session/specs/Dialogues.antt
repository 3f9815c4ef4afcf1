-- What contracts see of a dialogue.
use Rattle.t1_session.specs.declared.dialogue.Dialogue.{Dialogue}
use Rattle.t1_session.specs.declared.dialogue.CommandBegun.{CommandBegun}
use Rattle.std.specs.Prelude.{option_map}
use Rattle.t1_commands.specs.Commands.{OpenCommand}
use Rattle.t1_session.specs.Conversation.{Conversation}

-- word: the command whose body is being read
abbrev pub opening_seen : CommandBegun → OpenCommand
opening_seen o = record { heading = o.heading.items; body = o.body.items }

-- word: a dialogue without where it lies in memory
abbrev pub conversation_of : Dialogue → Conversation
conversation_of d = record { state = d.session; opening = option_map opening_seen d.opening; line = d.line.items; after_return = d.after_return }
