use Rattle.std.proofs.Common.{◌≡◌, ◌++◌, ◌∷◌, subst, sym, ◌∙◌, ap}
use Rattle.std.specs.List.{list_any}
use Rattle.t1_text.specs.Lines.{lines, before_rest}
use Rattle.t1_parts.specs.Parts.{ends_in}
use Rattle.t1_parts.specs.LineCuts.{NoneGone}
use Rattle.t1_parts.proofs.PartLaws.{lines_cut, none_further, none_over}
use Rattle.t1_parts.proofs.parts.cut_at.Goals as goal

pub returns-then-ends_in : goal.returns-then-ends_in
returns-then-ends_in c =
    let bytes = c.args.bytes.now in
    let rest = c.loop-rest.rest.now in
    let front : c.split_at.result.0.now ≡ before_rest bytes rest = c.split_at.ensures.front in
    let all = lines_cut bytes rest c.loop-rest.invariant.0 c.loop-rest.invariant.1 ∙ ap (λ ls. lines (before_rest bytes rest) ++ ls) c.first_line.ensures.lines in (
      all ∙ ap (λ t. lines t ++ c.first_line.result.0.now ∷ lines c.first_line.result.1.now) (sym front),
      ap (λ t. list_any (ends_in c.args.text.now) (lines t)) front ∙ c.loop-rest.invariant.2,
      sym c.ends_in.ensures ∙ c.if-ends_in.true,
    )

pub loop-rest-preserved : goal.loop-rest-preserved
loop-rest-preserved c =
    let test = ends_in c.args.text.now in
    let bytes = c.args.bytes.now in
    let after = c.first_line.result.1.now in
    let rest = c.from_line_with-rest-in-loop-rest.result.now in
    let further = none_further test bytes c.loop-rest.rest.now c.first_line.result.0.now after c.first_line.ensures.shorter c.first_line.ensures.cut (sym c.ends_in.ensures ∙ c.if-ends_in.false) c.loop-rest.invariant in
    none_over test bytes after rest further (subst (λ t. NoneGone (ends_in t) after rest) c.new-finder.ensures c.from_line_with-rest-in-loop-rest.ensures)
