use Rattle.std.proofs.Common.{◌∙◌}
use Rattle.t1_faults.proofs.CheckLaws.{none_where_sound}
use Rattle.t1_faults.proofs.judging.faults_unless_sound.Goals as goal

pub returns-in-Ok : goal.returns-in-Ok
returns-in-Ok c = c.new.ensures.items ∙ none_where_sound c.args.bytes.now c.args.source.now c.in-Ok._glyphs c.requires c.in-Ok.ensures
