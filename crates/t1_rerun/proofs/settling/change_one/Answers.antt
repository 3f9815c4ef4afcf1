use Rattle.std.proofs.Common.{◌≡◌, ◌∙◌, ap, sym}
use Rattle.t1_rerun.specs.declared.settling.RecordChange.TheVariants as steps
use Rattle.t1_rerun.specs.Steps.{seen_after, seen}
use Rattle.t1_rerun.proofs.settling.change_one.Goals as goal

pub returns-in-InsertGlyph-clause-seen : goal.returns-in-InsertGlyph-clause-seen
returns-in-InsertGlyph-clause-seen c =
    let reported = c.put_last_glyph.ensures in
    let step = steps.InsertGlyph c.in-InsertGlyph.name c.in-InsertGlyph.record in
    let made : seen c.put_last_glyph.new.records ≡ seen_after step (seen c.args.records.now) =
    (λ j. record { bodies = λ k. reported.bodies k j; users = λ k. reported.users k j; kept = reported.kept j }) in
    made ∙ ap (λ s. seen_after s (seen c.args.records.now)) (sym c.in-InsertGlyph.is)
