use Rattle.std.proofs.Common.{filter, ap, ◌∙◌}
use Rattle.t1_text.specs.Lines.{lines}
use Rattle.t1_parts.specs.Stretches.{stands_alone}
use Rattle.t1_parts.proofs.AloneLaws.{alone_between}
use Rattle.t1_parts.proofs.items_iter.ItemsIter.alone.Goals as goal

pub returns : goal.returns
returns c =
    let left = c.self.inside in
    c.among.ensures ∙ alone_between left.first (lines left.front.now) (lines left.back.now) left.stretches c.self.invariant.1 c.self.invariant.2
    ∙ ap (filter stands_alone) c.self.view_is
