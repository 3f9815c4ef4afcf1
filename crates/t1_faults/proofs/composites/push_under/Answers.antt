use Rattle.std.proofs.Common.{◌≡◌, Some, Ok, rules}
use Rattle.t1_font.specs.Runs.{drawing_in}
use Rattle.t1_faults.specs.GlyphRuns.{number_kept}
use Rattle.t1_faults.proofs.CompositeLaws.{found_under}
use Rattle.t1_faults.proofs.composites.push_under.Goals as goal

pub returns : goal.returns
returns c =
    let run = drawing_in c.args.runs.now in
    let d = c.in-Some-Ok.run'.drawing in
    let there : run c.args.name.now ≡ Some (Ok d) = search rules in
    let parts : d.composite ≡ Some c.in-Some.parts.now = search rules in
    found_under (number_kept c.args.numbers.now.entries) run c.args.name.now c.as_slice.result.now c.as_slice-2.result.now d c.in-Some.parts.now
    c.args.under.now.items c.push_found.new.under.items c.push_found-2.new.under.items there parts c.as_slice.ensures c.as_slice-2.ensures c.in_ok-push_found.ensures c.in_ok-push_found-2.ensures
