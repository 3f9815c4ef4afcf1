use Rattle.std.proofs.Common.{◌∙◌, ◌++◌, [], ◌+◌, map, drop, get_or, refl, sym, ap, arith}
use Rattle.std.proofs.lemmas.List.{append-nil, drop_all, drop_more}
use Rattle.t1_font.specs.Runs.{drawing_in}
use Rattle.t1_faults.specs.GlyphRuns.{composites_kept, composites_on, number_kept}
use Rattle.t1_faults.proofs.CompositeLaws.{glyph_next}
use Rattle.t1_faults.proofs.composites.composites_on.Goals as goal

pub loop-name-init : goal.loop-name-init
loop-name-init c = λ n.
    ap (λ es. composites_kept es n ++ composites_on (number_kept c.args.numbers.now.entries) (drawing_in c.args.runs.now) (map (λ name. name.now) c.args.glyphs.now) n) c.new-composites.ensures.empty

pub loop-name-preserved : goal.loop-name-preserved
loop-name-preserved c = λ n.
    let numbers = number_kept c.args.numbers.now.entries in
    let run = drawing_in c.args.runs.now in
    glyph_next numbers run c.args.glyphs.now c.loop-name.name-index n (get_or c.args.glyphs.now c.loop-name.name-index (record { ref_ptr = (0, 0); now = [] })) c.deref.result.now
    (composites_kept c.loop-name.composites.entries n) (composites_kept c.add_to_each.new.composites.entries n) _
    (omega arith) (drop_more c.args.glyphs.now c.loop-name.name-index (record { ref_ptr = (0, 0); now = [] }) (omega arith))
    (c.deref.ensures.value ∙ c.in_ok-under.ensures) (c.in_ok-add_to_each.ensures n) (c.loop-name.invariant n)

pub returns : goal.returns
returns c = λ n.
    let kept = composites_kept c.loop-name.composites.entries n in
    sym (append-nil kept)
    ∙ ap (λ gs. kept ++ composites_on (number_kept c.args.numbers.now.entries) (drawing_in c.args.runs.now) (map (λ name. name.now) gs) n)
    (sym (drop_all c.loop-name.name-index c.args.glyphs.now (omega arith)))
    ∙ c.loop-name.invariant n
