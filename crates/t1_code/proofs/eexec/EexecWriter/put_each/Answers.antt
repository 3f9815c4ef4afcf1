use Rattle.std.proofs.Common.{◌<◌, ◌∙◌, length, drop, refl, ap, arith, []}
use Rattle.std.proofs.lemmas.List.{drop_all}
use Rattle.std.proofs.lemmas.Result.{err_from_is_err_and}
use Rattle.t1_code.specs.Eexec.{enciphered, state_after}
use Rattle.t1_code.specs.Parts.{slices_bytes}
use Rattle.t1_code.proofs.Carrying.{Carried-all, Carried-end, Carried-turn, Carried-turn-fails}
use Rattle.t1_code.proofs.Enciphering.{enciphering, none_enciphered, state_stays}
use Rattle.t1_code.proofs.eexec.EexecWriter.put_each.Goals as goal

pub returns-in_err-put-clause-text : goal.returns-in_err-put-clause-text
returns-in_err-put-clause-text g c =
    let inside : c.loop-slice.slice-index < length c.args.slices.now = omega arith in
    let p = err_from_is_err_and c.from_residual.result c.from_residual.ensures.1 in
    rw p.1 (Carried-turn-fails g.W.Write.contents enciphering (λ slice. slice.now) c.args.slices.now c.loop-slice.slice-index _ (record { ref_ptr = (0, 0); now = [] }) inside refl
    c.args.outlet.now c.loop-slice.outlet c.put.new.outlet _ _ _ c.loop-slice.invariant c.in_err-put.ensures.text)

pub loop-slice-preserved : goal.loop-slice-preserved
loop-slice-preserved g c =
    let inside : c.loop-slice.slice-index < length c.args.slices.now = omega arith in
    Carried-turn g.W.Write.contents enciphering (λ slice. slice.now) c.args.slices.now c.loop-slice.slice-index _ (record { ref_ptr = (0, 0); now = [] }) inside refl
    c.args.outlet.now c.loop-slice.outlet c.put.new.outlet _ _ _ _ c.loop-slice.invariant c.in_ok-put.ensures.text c.in_ok-put.ensures.state

pub returns-clause-text : goal.returns-clause-text
returns-clause-text g c =
    let slices = c.args.slices.now in
    let state = c.loop-slice.self in
    Carried-all g.W.Write.contents enciphering c.args.outlet.now c.loop-slice.outlet c.args.self.now state (slices_bytes slices) (slices_bytes (drop c.loop-slice.slice-index slices))
    c.loop-slice.invariant (ap (λ l. enciphered state (slices_bytes l)) (drop_all c.loop-slice.slice-index slices (omega arith)) ∙ none_enciphered state)

pub returns-clause-state : goal.returns-clause-state
returns-clause-state g c =
    let slices = c.args.slices.now in
    let state = c.loop-slice.self in
    Carried-end g.W.Write.contents enciphering c.args.outlet.now c.loop-slice.outlet c.args.self.now state (slices_bytes slices) (slices_bytes (drop c.loop-slice.slice-index slices))
    c.loop-slice.invariant (ap (λ l. state_after state (slices_bytes l)) (drop_all c.loop-slice.slice-index slices (omega arith)) ∙ state_stays state)
