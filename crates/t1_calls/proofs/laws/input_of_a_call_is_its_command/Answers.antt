use Rattle.t1_calls.proofs.FramingLaws.{of_call}
use Rattle.t1_calls.proofs.laws.input_of_a_call_is_its_command.Goals as goal

pub returns : goal.returns
returns c = of_call
