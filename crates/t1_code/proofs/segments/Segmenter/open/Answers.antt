use Rattle.std.proofs.Common.{◌≡◌, ◌≤◌, ◌<◌, List, ℕ, min, refl, ap, subst, arith}
use Rattle.std.proofs.lemmas.Result.{err_from_is_err_and}
use Rattle.t1_code.specs.Writing.{Passes, Stops}
use Rattle.t1_code.proofs.Segmenting.{no_head, head_given, start_given}
use Rattle.t1_code.proofs.Writing.{passing}
use Rattle.t1_code.proofs.segments.Segmenter.open.Goals as goal

pub returns-clause-text : goal.returns-clause-text
returns-clause-text g c =
    let s = c.args.self.now in
    let v = c.self.view_is in
    let full : s.room ≤ 0 = omega (arith, ap (λ s. s.room) v, c.if-self-gt0.false) in
    let count : c.min.result ≡ min s.size s.left = omega (arith, ap (λ s. s.size) v, ap (λ s. s.left) v, c.min.ensures, c.get.ensures.value) in
    subst (λ (head : List ℕ). Passes g.W.Write.contents c.args.outlet.now c.put.new.self head)
    (head_given s c.self.inside.kind c.min.result c.segment_head.result full (ap (λ s. s.kind) v) count c.segment_head.ensures) c.in_ok-put.ensures

pub returns-clause-state : goal.returns-clause-state
returns-clause-state g c =
    let s = c.args.self.now in
    let v = c.self.view_is in
    let full : s.room ≤ 0 = omega (arith, ap (λ s. s.room) v, c.if-self-gt0.false) in
    start_given s _ full (rw (c.get-self-inside.ensures.value, ap (λ s. s.kind) v, ap (λ s. s.size) v, ap (λ s. s.left) v) refl)

pub returns-then-self-gt0-clause-text : goal.returns-then-self-gt0-clause-text
returns-then-self-gt0-clause-text g c =
    let s = c.args.self.now in
    let a = c.args.outlet.now in
    let more : 0 < s.room = omega (arith, ap (λ s. s.room) c.self.view_is, c.if-self-gt0.true) in
    subst (λ (head : List ℕ). Passes g.W.Write.contents a a head) (no_head s more) ((passing g.W.Write.contents).none a)

pub returns-in_err-put-clause-text : goal.returns-in_err-put-clause-text
returns-in_err-put-clause-text g c =
    let p = err_from_is_err_and c.from_residual.result c.from_residual.ensures.1 in
    let s = c.args.self.now in
    let v = c.self.view_is in
    let full : s.room ≤ 0 = omega (arith, ap (λ s. s.room) v, c.if-self-gt0.false) in
    let count : c.min.result ≡ min s.size s.left = omega (arith, ap (λ s. s.size) v, ap (λ s. s.left) v, c.min.ensures, c.get.ensures.value) in
    rw p.1 (subst (λ (head : List ℕ). Stops g.W.Write.contents c.args.outlet.now c.put.new.self head)
    (head_given s c.self.inside.kind c.min.result c.segment_head.result full (ap (λ s. s.kind) v) count c.segment_head.ensures) c.in_err-put.ensures)
