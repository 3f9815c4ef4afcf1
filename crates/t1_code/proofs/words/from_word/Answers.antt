use Rattle.std.proofs.Common.{sym}
use Rattle.t1_code.proofs.Scanning.{trimmed_once, words_trimmed}
use Rattle.t1_code.proofs.words.from_word.Goals as goal

pub returns-clause-trimmed : goal.returns-clause-trimmed
returns-clause-trimmed c = trimmed_once c.args.text.now c.skip_blanks.result.now c.skip_blanks.ensures

pub returns-clause-same : goal.returns-clause-same
returns-clause-same c = sym (words_trimmed c.args.text.now c.skip_blanks.result.now c.skip_blanks.ensures)
