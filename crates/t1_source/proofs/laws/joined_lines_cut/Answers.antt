use Rattle.t1_text.proofs.TextLaws.{lines_joined}
use Rattle.t1_source.proofs.laws.joined_lines_cut.Goals as goal

pub returns : goal.returns
returns c = λ ls h. lines_joined ls h
