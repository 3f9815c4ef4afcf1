use Rattle.std.proofs.Common.{Result, ap, ◌∙◌, filter, refl}
use Rattle.t1_frac.specs.declared.fault.Fault.{Fault}
use Rattle.t1_frac.specs.Outcome.{◌>>=◌}
use Rattle.t1_parts.specs.Counts.{is_glyph_entry}
use Rattle.t1_source.specs.Editing.{is_subr_entry}
use Rattle.t1_font.specs.Assembly.{file_check}
use Rattle.t1_font.specs.Bodies.{bodies_check}
use Rattle.t1_font.proofs.LengthLaws.{bodies_first, judged_in_turn}
use Rattle.t1_font.proofs.SubrsFirst.{subrs-first}
use Rattle.t1_font.proofs.laws.subrs_are_judged_first.Goals as goal

pub returns : goal.returns
returns c = λ s formed.
    let all = subrs-first s.items (λ a b g ws closing e. c.subrs_stand_first.ensures s a b g ws closing formed e) in
    bodies_first s (bodies_check s.items) refl
    ∙ ap (λ (r : Result (Unit {0}) Fault). r >>= λ checked. file_check s) all
    ∙ judged_in_turn (bodies_check (filter is_subr_entry s.items)) (bodies_check (filter is_glyph_entry s.items)) (file_check s)
