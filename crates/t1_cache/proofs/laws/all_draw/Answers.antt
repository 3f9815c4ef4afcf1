use Rattle.t1_cache.proofs.Drawing.{all_draw}
use Rattle.t1_cache.proofs.laws.all_draw.Goals as goal

pub returns : goal.returns
returns c = all_draw
