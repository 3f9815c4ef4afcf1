use Rattle.std.proofs.Common.{ℕ, List, [], ◌∙◌, ap, sym, get_or, take, arith}
use Rattle.std.specs.Prelude.{◌||◌, ◌&&◌}
use Rattle.std.specs.Borrow.{Bor}
use Rattle.std.specs.Str.{bytes_eq}
use Rattle.std.proofs.lemmas.List.Folds.{list_any_more}
use Rattle.t1_run.specs.Footprint.{asks}
use Rattle.t1_run.specs.Touched.{is_user}
use Rattle.t1_cache.specs.Renewed.{recorded_run}
use Rattle.t1_cache.specs.Users.{is_name_among}
use Rattle.t1_cache.proofs.Using.{none-used, run-used, glyph-more, none-more}
use Rattle.t1_cache.proofs.uses.leaves_of.Goals as goal

pub loop-name-preserved-in_default : goal.loop-name-preserved-in_default
loop-name-preserved-in_default c = λ k u.
    let records = c.args.records.now in
    let names = c.args.names.now in
    let i = c.loop-name.name-index in
    let none : Bor (List ℕ) = record { ref_ptr = (0, 0); now = [] } in
    let name = (get_or names i none).now in
    let used = is_user k (recorded_run records u) in
    c.loop-name.invariant k u
    ∙ none-more (is_name_among (λ n. n.now) (take i names) u) used (bytes_eq u name) (none-used records k u name c.in_default.ensures.value)
    ∙ ap (λ b. b && used) (sym (list_any_more (λ n. bytes_eq u n.now) names i none (omega arith)))

pub loop-name-preserved : goal.loop-name-preserved
loop-name-preserved c = λ k u.
    let records = c.args.records.now in
    let names = c.args.names.now in
    let i = c.loop-name.name-index in
    let none : Bor (List ℕ) = record { ref_ptr = (0, 0); now = [] } in
    let name = (get_or names i none).now in
    let used = is_user k (recorded_run records u) in
    let drawing = c.in-Some.glyph.now.run.drawing in
    let asked = asks drawing.composite drawing.entered k in
    (rw c.record.ensures at c.in_ok-push_uses.ensures) k u
    ∙ ap (λ b. b || (asked && bytes_eq u name)) (c.loop-name.invariant k u)
    ∙ glyph-more (is_name_among (λ n. n.now) (take i names) u) used asked (bytes_eq u name) (run-used records k u name c.in-Some.glyph.now c.in-Some.ensures.value)
    ∙ ap (λ b. b && used) (sym (list_any_more (λ n. bytes_eq u n.now) names i none (omega arith)))
