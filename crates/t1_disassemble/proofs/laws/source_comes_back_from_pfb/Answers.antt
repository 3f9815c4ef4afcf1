use Rattle.std.proofs.Common.{ap, ◌∙◌, Ok, map}
use Rattle.t1_text.specs.Lines.{lines}
use Rattle.t1_parts.specs.Parts.{tail_of}
use Rattle.t1_disassemble.specs.Laws.{plain_item}
use Rattle.t1_disassemble.proofs.FlatFileLaws.{text_again}
use Rattle.t1_disassemble.proofs.WholeLaws.{file_again}
use Rattle.t1_disassemble.proofs.laws.source_comes_back_from_pfb.Goals as goal

pub returns : goal.returns
returns c size clear operator lead items last bytes trailer some short is made =
    file_again size clear operator lead items last bytes trailer some short is made ∙ ap Ok (text_again clear (map plain_item items) last (tail_of (lines trailer)))
