use Rattle.std.proofs.Common.{◌≤◌, ◌+◌, ◌-◌, ℕ, List, drop, length, take, ◌≡◌, ◌∙◌, ap, arith, subst, sym}
use Rattle.std.specs.Prelude.{flat_map, max}
use Rattle.std.proofs.lemmas.List.{length-drop}
use Rattle.std.proofs.lemmas.Result.{err_from_is_err_and}
use Rattle.t1_code.proofs.Writing.{passing, Written, Written-step, Written-fails}
use Rattle.t1_afm.specs.declared.metrics.CharMetric.{CharMetric}
use Rattle.t1_afm.specs.Afm.{char_line, line_text}
use Rattle.t1_afm.proofs.WrittenLines.{lines_cut}
use Rattle.t1_afm.proofs.chars.put_chars.Goals as goal

pub returns-in_err-put_filled : goal.returns-in_err-put_filled
returns-in_err-put_filled g c =
    let text : CharMetric → List ℕ = λ x. line_text (char_line x) in
    let chars = c.args.chars.now in
    let rest = c.split_at.result.1.now in
    let start = c.args.outlet.now in
    let before = c.loop-at.outlet in
    let after = c.put_filled.new.outlet in
    let count = max c.fill-filled.result.count 1 in
    let parts = lines_cut text chars rest c.loop-at.at count c.split_at.ensures.back in
    rw (err_from_is_err_and c.from_residual.result c.from_residual.ensures.1).1
    (Written-fails (passing g.W.Write.contents) start before after (flat_map text chars) (flat_map text (take count rest)) (flat_map text (drop (c.loop-at.at + count) chars))
    (subst (Written (passing g.W.Write.contents) start before (flat_map text chars)) parts c.loop-at.invariant.written) c.in_err-put_filled.ensures)

pub loop-at-preserved : goal.loop-at-preserved
loop-at-preserved g c =
    let text : CharMetric → List ℕ = λ x. line_text (char_line x) in
    let chars = c.args.chars.now in
    let rest = c.split_at.result.1.now in
    let start = c.args.outlet.now in
    let before = c.loop-at.outlet in
    let after = c.put_filled.new.outlet in
    let count = max c.fill-filled.result.count 1 in
    let parts = lines_cut text chars rest c.loop-at.at count c.split_at.ensures.back in
    let long : length rest ≡ length chars - c.loop-at.at = ap (λ (l : List CharMetric). length l) c.split_at.ensures.back ∙ length-drop c.loop-at.at chars in
    let some : 1 ≤ length rest = omega (arith, long) in
    let most = c.at_least_one-at.ensures.within (length rest) some c.fill-filled.ensures.count in
    let written = Written-step (passing g.W.Write.contents) start before after (flat_map text chars) (flat_map text (take count rest)) (flat_map text (drop (c.loop-at.at + count) chars))
    (subst (Written (passing g.W.Write.contents) start before (flat_map text chars)) parts c.loop-at.invariant.written) c.in_ok-put_filled.ensures in
    record {
      within = omega (arith, most, long);
      written = subst (λ n. Written (passing g.W.Write.contents) start after (flat_map text chars) (flat_map text (drop (c.loop-at.at + n) chars))) (sym c.at_least_one-at.ensures.value) written;
    }
