use Rattle.std.proofs.Common.{◌∙◌, map}
use Rattle.t1_cache.specs.Recorded.{kept_of}
use Rattle.t1_rerun.proofs.Stepping.{kept-but-subr}
use Rattle.t1_rerun.proofs.settling.remove.Goals as goal

pub returns-in-Subr-clause-kept : goal.returns-in-Subr-clause-kept
returns-in-Subr-clause-kept c =
    c.remove_subr.ensures.kept
    ∙ kept-but-subr c.in-Subr.number c.args.named.now (map kept_of c.args.records.now.glyphs.entries) c.in-Subr.is
