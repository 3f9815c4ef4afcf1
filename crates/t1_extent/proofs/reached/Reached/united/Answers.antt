use Rattle.t1_extent.proofs.Reaching.{united_whole, united_mixed}
use Rattle.t1_extent.proofs.reached.Reached.united.Goals as goal

pub returns-in-Whole-Whole : goal.returns-in-Whole-Whole
returns-in-Whole-Whole c = λ a b h k.
    united_whole c.args.self.now c.args.other.now c.in-Whole-Whole.one c.in-Whole-Whole.other c.unite.result c.unite-corners.result a b
    c.in-Whole-Whole.is-0 c.in-Whole-Whole.is-1 h k c.unite.ensures.value c.unite.ensures.fine c.unite-corners.ensures.value c.unite-corners.ensures.fine

pub returns : goal.returns
returns c = λ a b h k.
    united_mixed c.args.self.now c.args.other.now c.unite-corners.result c.bbox.result c.bbox-2.result c.unite-2.result a b h k
    (c.bbox.ensures a h) (c.bbox-2.ensures b k) c.unite-2.ensures c.unite-corners.ensures.value c.unite-corners.ensures.fine
