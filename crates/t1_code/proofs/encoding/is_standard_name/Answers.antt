use Rattle.std.proofs.Common.{ℕ, List, ◌∙◌, ap}
use Rattle.std.specs.List.{list_any}
use Rattle.std.specs.Str.{bytes_eq}
use Rattle.t1_code.specs.Encoding.{is_standard_name}
use Rattle.t1_code.proofs.encoding.is_standard_name.Goals as goal

pub returns : goal.returns
unfolding is_standard_name
returns c =
    c.is_among.ensures ∙ ap (list_any (λ (row : ℕ × List ℕ). bytes_eq row.1 c.args.name.now)) c.standard_table.ensures
