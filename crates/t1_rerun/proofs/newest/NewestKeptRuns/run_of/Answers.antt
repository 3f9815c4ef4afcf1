use Rattle.std.proofs.Common.{sym}
use Rattle.t1_rerun.proofs.Traces.{found_trace}
use Rattle.t1_rerun.proofs.newest.NewestKeptRuns.run_of.Goals as goal

pub returns-in-Some-get-clause-traced : goal.returns-in-Some-get-clause-traced
returns-in-Some-get-clause-traced c =
    rw c.record.ensures
    (found_trace c.args.self.now.records.now.glyphs.entries c.args.name.now c.in-Some-get.glyph.now c.args.self.now.traced (sym c.in-Some-get.ensures.value))
