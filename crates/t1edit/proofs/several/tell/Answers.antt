use Rattle.t1edit.proofs.Lines.{refused_line}
use Rattle.t1edit.proofs.several.tell.Goals as goal

pub returns-in-Err-clause-line : goal.returns-in-Err-clause-line
returns-in-Err-clause-line g c =
    refused_line g.W.Write.contents c.args.writer.now c.put_refused-written.new.writer c.args.path.now c.args.answer.now c.in-Err.error c.put_refused-written.result c.in-Err.is
    c.put_refused-written.ensures
