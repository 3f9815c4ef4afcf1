use Rattle.std.proofs.Common.{◌∙◌}
use Rattle.t1_afm.proofs.Ends.{is_one, same_values, whole_read}
use Rattle.t1_afm.proofs.cubic.Cubic.span.Goals as goal

pub returns-then-is_whole-4 : goal.returns-then-is_whole-4
returns-then-is_whole-4 c =
    c.span.ensures
    ∙ same_values _ _ _ _ _ _ _ _
    (whole_read c.args.self.now.start c.num.result c.num.ensures (is_one _ _ c.is_whole.ensures.value c.if-is_whole.true) c.args.self.now.start_within)
    (whole_read c.args.self.now.first c.num-then-is_whole-4.result c.num-then-is_whole-4.ensures (is_one _ _ c.is_whole-then-is_whole.ensures.value c.if-is_whole-2.true) c.args.self.now.first_within)
    (whole_read c.args.self.now.second c.num-then-is_whole-4-2.result c.num-then-is_whole-4-2.ensures (is_one _ _ c.is_whole-then-is_whole-2.ensures.value c.if-is_whole-3.true) c.args.self.now.second_within)
    (whole_read c.args.self.now.end c.num-then-is_whole-4-3.result c.num-then-is_whole-4-3.ensures (is_one _ _ c.is_whole-then-is_whole-3.ensures.value c.if-is_whole-4.true) c.args.self.now.end_within)
