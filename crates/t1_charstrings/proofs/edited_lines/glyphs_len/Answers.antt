use Rattle.std.proofs.Common.{◌∙◌, ◌-◌, ◌^◌, ℕ, List, [], ap, length, min, refl, arith}
use Rattle.std.specs.Prelude.{sum_by}
use Rattle.std.specs.Str.{bytes_eq}
use Rattle.std.specs.declared.alloc.Global.{Global}
use Rattle.std.specs.declared.vec.Vec.{Vec}
use Rattle.std.proofs.lemmas.List.Sums.{sum_by-cons}
use Rattle.t1_run.specs.Run.{Glyph}
use Rattle.t1_charstrings.specs.Beside.{bare_length}
use Rattle.t1_charstrings.specs.Kept.{charstring_at}
use Rattle.t1_charstrings.specs.Lines.{kept_entry_line}
use Rattle.t1_charstrings.proofs.KeySums.{once-kept}
use Rattle.t1_charstrings.proofs.edited_lines.glyphs_len.Goals as goal

pub loop-name-preserved : goal.loop-name-preserved
loop-name-preserved c =
    let o = c.args.operator.now in
    let f : List ℕ → ℕ = λ g. bare_length (charstring_at c.args.charstrings.now) o (Glyph g) in
    let steps = ap (sum_by (λ (name : Vec ℕ Global). f name.items)) c.in-Some.ensures.steps
    ∙ sum_by-cons (λ (name : Vec ℕ Global). f name.items) c.in-Some.name.now c.next.new.self in
    let one = c.kept_line_len.ensures ∙ ap (λ r. min (length (kept_entry_line o [] r)) (2 ^ 64 - 1)) c.get-kept.ensures.value
    ∙ ap (λ g. min (f g) (2 ^ 64 - 1)) c.as_slice.ensures.value in
    (tt, tt, omega (arith, c.saturating_add-total.ensures), omega (arith, steps, one, c.saturating_add-total.ensures, c.loop-name.invariant.3))

pub returns-clause-once : goal.returns-clause-once
returns-clause-once c =
    once-kept (λ x y. bytes_eq x.items y.items) (λ (v : Vec ℕ Global). Glyph v.items) (λ x y. refl) c.args.glyphs.now.entries c.keys-name-items.ensures.unique
