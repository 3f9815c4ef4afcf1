use Rattle.std.proofs.Common.{◌≡◌, ◌<◌, length, false, sym, ◌∙◌, ap, arith, rules}
use Rattle.t1_text.proofs.CutLaws.{line_gone}
use Rattle.t1_parts.specs.Parts.{is_eexec}
use Rattle.t1_disassemble.proofs.Fronts.{no_eexec, eexec_later, line_suffix}
use Rattle.t1_disassemble.proofs.front.after_eexec_line.Goals as goal

pub loop-rest-preserved : goal.loop-rest-preserved
loop-rest-preserved c =
    let some : 0 < length c.loop-rest.rest.now = search rules in
    let off : is_eexec c.cut_line.result.0.now ≡ false = search rules in
    let shorter = line_gone c.loop-rest.rest.now some in
    record {
      line = eexec_later c.loop-rest.rest.now c.cut_line.result.0.now c.cut_line.result.1.now some c.cut_line.ensures.line c.cut_line.ensures.after off ∙ c.loop-rest.invariant.line;
      within = omega (arith, ap length c.cut_line.ensures.after, shorter, c.loop-rest.invariant.within);
      left = line_suffix c.args.bytes.now c.loop-rest.rest.now c.cut_line.result.1.now c.loop-rest.invariant.left c.cut_line.ensures.after;
    }

pub returns-then-is_eexec-clause-left : goal.returns-then-is_eexec-clause-left
returns-then-is_eexec-clause-left c = line_suffix c.args.bytes.now c.loop-rest.rest.now c.cut_line.result.1.now c.loop-rest.invariant.left c.cut_line.ensures.after

pub returns-clause-value : goal.returns-clause-value
returns-clause-value c =
    let none : length c.loop-rest.rest.now ≡ 0 = search rules in
    sym (no_eexec c.loop-rest.rest.now none) ∙ c.loop-rest.invariant.line
