use Rattle.std.proofs.Common.{◌<◌, [], length, refl, arith}
use Rattle.std.proofs.lemmas.Result.{err_from_is_err_and}
use Rattle.t1_code.proofs.Encrypting.{flat_map-drop}
use Rattle.t1_code.proofs.Writing.{passing, Written-step, Written-fails}
use Rattle.t1_code.proofs.outlet.Outlet.put_slices.Goals as goal

pub loop-slice-preserved : goal.loop-slice-preserved
loop-slice-preserved g c =
    let inside : c.loop-slice.slice-index < length c.args.slices.now = omega arith in
    Written-step (passing g.W.Write.contents) c.args.self.now c.loop-slice.self c.put.new.self _ _ _
    (rw (flat_map-drop (λ slice. slice.now) c.args.slices.now c.loop-slice.slice-index _ (record { ref_ptr = (0, 0); now = [] }) inside refl) at c.loop-slice.invariant) c.in_ok-put.ensures

pub returns-in_err-put : goal.returns-in_err-put
returns-in_err-put g c =
    let inside : c.loop-slice.slice-index < length c.args.slices.now = omega arith in
    rw (err_from_is_err_and c.from_residual.result c.from_residual.ensures.1).1 (Written-fails (passing g.W.Write.contents) c.args.self.now c.loop-slice.self c.put.new.self _ _ _
    (rw (flat_map-drop (λ slice. slice.now) c.args.slices.now c.loop-slice.slice-index _ (record { ref_ptr = (0, 0); now = [] }) inside refl) at c.loop-slice.invariant) c.in_err-put.ensures)
