use Rattle.std.proofs.Common.{◌∙◌}
use Rattle.t1_extent.proofs.Keeping.{kept_within, kept_box, whole_drawn}
use Rattle.t1_extent.proofs.reached.Reached.bbox.Goals as goal

pub rounded_extent-requires : goal.rounded_extent-requires
rounded_extent-requires c =
    let some = c.requires in
    kept_within c.in-Whole.extent some.0 some.1.within (whole_drawn c.args.self.now.drawn c.in-Whole.extent some.0 c.in-Whole.is some.1.drawn)

pub returns-in-Whole : goal.returns-in-Whole
returns-in-Whole c = λ outline h.
    c.rounded_extent.ensures ∙ kept_box c.in-Whole.extent outline h.within (whole_drawn c.args.self.now.drawn c.in-Whole.extent outline c.in-Whole.is h.drawn)
