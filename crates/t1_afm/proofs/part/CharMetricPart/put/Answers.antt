use Rattle.t1_afm.proofs.WrittenLines.{width_both}
use Rattle.t1_afm.proofs.part.CharMetricPart.put.Goals as goal

pub returns-else-self-eq0 : goal.returns-else-self-eq0
returns-else-self-eq0 g c =
    rw (width_both c.args.self.now.wx c.args.self.now.wy c.if-self-eq0.false) (rw c.words_of_both.ensures at c.put_line-else-self-eq0.ensures)
