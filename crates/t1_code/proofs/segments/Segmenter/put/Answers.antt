use Rattle.std.proofs.Common.{◌≡◌, ◌∙◌, ◌++◌, ◌<◌, ◌≤◌, length, refl, sym, ap, arith}
use Rattle.std.proofs.lemmas.List.{take-append-drop}
use Rattle.std.proofs.lemmas.Result.{err_from_is_err_and}
use Rattle.t1_code.specs.Segments.{segment_opened, in_segments, segmenting_after}
use Rattle.t1_code.proofs.Carrying.{Carried-none, Carried-all, Carried-end}
use Rattle.t1_code.proofs.Segmenting.{cutting, some_of, head_fails, front_fails, front_passes}
use Rattle.t1_code.proofs.Writing.{nothing_left}
use Rattle.t1_code.proofs.segments.Segmenter.put.Goals as goal

pub loop-rest-init : goal.loop-rest-init
loop-rest-init g c = Carried-none g.W.Write.contents cutting c.args.outlet.now c.args.self.now c.args.bytes.now

pub returns-clause-text : goal.returns-clause-text
returns-clause-text g c =
    Carried-all g.W.Write.contents cutting c.args.outlet.now c.loop-rest.outlet c.args.self.now c.loop-rest.self c.args.bytes.now c.loop-rest.rest.now
    c.loop-rest.invariant (ap (in_segments c.loop-rest.self) (nothing_left c.loop-rest.rest.now (sym c.is_empty.ensures ∙ c.loop-rest-test.false)))

pub returns-clause-state : goal.returns-clause-state
returns-clause-state g c =
    Carried-end g.W.Write.contents cutting c.args.outlet.now c.loop-rest.outlet c.args.self.now c.loop-rest.self c.args.bytes.now c.loop-rest.rest.now
    c.loop-rest.invariant (ap (segmenting_after c.loop-rest.self) (nothing_left c.loop-rest.rest.now (sym c.is_empty.ensures ∙ c.loop-rest-test.false)))

pub returns-in_err-open-clause-text : goal.returns-in_err-open-clause-text
returns-in_err-open-clause-text g c =
    let p = err_from_is_err_and c.from_residual.result c.from_residual.ensures.1 in
    let some : 0 < length c.loop-rest.rest.now = some_of (length c.loop-rest.rest.now) (sym c.is_empty.ensures ∙ c.loop-rest-test.true) in
    rw p.1 (head_fails g.W.Write.contents c.args.outlet.now c.args.self.now c.args.bytes.now c.loop-rest.outlet c.open.new.outlet
    c.loop-rest.self c.loop-rest.rest.now c.loop-rest.invariant some c.in_err-open.ensures.text)

pub returns-in_err-put-clause-text : goal.returns-in_err-put-clause-text
returns-in_err-put-clause-text g c =
    let p = err_from_is_err_and c.from_residual-in_err-put.result c.from_residual-in_err-put.ensures.1 in
    let s = c.loop-rest.self in
    let front = c.split_at.result.0.now in
    let after = c.split_at.result.1.now in
    let parts : c.loop-rest.rest.now ≡ front ++ after = rw (c.split_at.ensures.front, c.split_at.ensures.back) (sym (take-append-drop c.min.result c.loop-rest.rest.now)) in
    let is_open = c.self.view_is ∙ c.in_ok-open.ensures.state in
    let room : c.self.inside.room ≡ (segment_opened s).room = ap (λ v. v.room) is_open in
    let opens : 0 < (segment_opened s).room = omega (arith, ap (λ v. v.room) c.in_ok-open.ensures.state, c.in_ok-open.ensures.room) in
    let left : 0 < length c.loop-rest.rest.now = some_of (length c.loop-rest.rest.now) (sym c.is_empty.ensures ∙ c.loop-rest-test.true) in
    let some : 0 < length front = omega (arith, opens, left, room, c.min.ensures, c.split_at.ensures.front_len) in
    let short : length front ≤ (segment_opened s).room = omega (arith, room, c.min.ensures, c.split_at.ensures.front_len) in
    rw p.1 (front_fails g.W.Write.contents c.args.outlet.now c.args.self.now c.args.bytes.now c.loop-rest.outlet c.open.new.outlet
    c.put.new.self s c.loop-rest.rest.now front after c.loop-rest.invariant parts some short c.in_ok-open.ensures.text c.in_err-put.ensures)

pub loop-rest-preserved : goal.loop-rest-preserved
loop-rest-preserved g c =
    let s = c.loop-rest.self in
    let front = c.split_at.result.0.now in
    let after = c.split_at.result.1.now in
    let parts : c.loop-rest.rest.now ≡ front ++ after = rw (c.split_at.ensures.front, c.split_at.ensures.back) (sym (take-append-drop c.min.result c.loop-rest.rest.now)) in
    let is_open = c.self.view_is ∙ c.in_ok-open.ensures.state in
    let room : c.self.inside.room ≡ (segment_opened s).room = ap (λ v. v.room) is_open in
    let size : c.self.inside.size ≡ (segment_opened s).size = ap (λ v. v.size) is_open in
    let opens : 0 < (segment_opened s).room = omega (arith, ap (λ v. v.room) c.in_ok-open.ensures.state, c.in_ok-open.ensures.room) in
    let left : 0 < length c.loop-rest.rest.now = some_of (length c.loop-rest.rest.now) (sym c.is_empty.ensures ∙ c.loop-rest-test.true) in
    let some : 0 < length front = omega (arith, opens, left, room, c.min.ensures, c.split_at.ensures.front_len) in
    let short : length front ≤ (segment_opened s).room = omega (arith, room, c.min.ensures, c.split_at.ensures.front_len) in
    let left_is : c.self.inside.left ≡ (segment_opened s).left = ap (λ v. v.left) is_open in
    let kind : c.self.inside.kind ≡ (segment_opened s).kind = ap (λ v. v.kind) is_open in
    front_passes g.W.Write.contents c.args.outlet.now c.args.self.now c.args.bytes.now c.loop-rest.outlet c.open.new.outlet
    c.put.new.self s _ c.loop-rest.rest.now front after c.loop-rest.invariant parts some short c.in_ok-open.ensures.text c.in_ok-put.ensures
    (rw (c.saturating_sub-self-inside.ensures, kind, size, room, left_is) refl)
