use Rattle.t1_extent.specs.Exacts.{kept_number}
use Rattle.t1_extent.proofs.Limited.{floor_limited, narrow, narrow_fits}
use Rattle.t1_extent.proofs.extent.rounded_down.Goals as goal

pub overflow_cast-result : goal.overflow_cast-result
overflow_cast-result c =
    let side = c.args.side.now in
    narrow_fits c.floor.result _ c.floor.ensures (floor_limited (kept_number side) side.above c.requires)

pub returns : goal.returns
returns c =
    let side = c.args.side.now in
    narrow c.floor.result _ c.floor.ensures (floor_limited (kept_number side) side.above c.requires)
