use Rattle.std.proofs.Common.{◌++◌, ap, arith}
use Rattle.t1_parts.specs.Counts.{subrs_needed}
use Rattle.t1_source.proofs.EditedItemsLaws.{subrs-both}
use Rattle.t1_source.proofs.editing.edited_items.EditedItems.subrs.Goals as goal

pub returns : goal.returns
returns c =
    let s = c.args.self.now in
    omega (
      arith,
      c.max.ensures,
      c.max-2.ensures,
      c.subrs_needed.ensures,
      c.subrs_needed-put.ensures,
      c.subrs_needed-after.ensures,
      ap subrs_needed c.again.ensures,
      ap subrs_needed c.again-2.ensures,
      ap subrs_needed c.again-3.ensures,
      subrs-both s.before (s.put ++ s.after),
      subrs-both s.put s.after,
    )
