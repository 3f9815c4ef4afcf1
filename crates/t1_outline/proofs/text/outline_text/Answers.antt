use Rattle.std.proofs.Common.{refl}
use Rattle.t1_outline.specs.Text.{outline_text}
use Rattle.t1_outline.proofs.text.outline_text.Goals as goal

pub loop-segment-init : goal.loop-segment-init
unfolding outline_text
loop-segment-init c = rw c.new-text.ensures.items refl
