use Rattle.std.proofs.Common.{rules, ◌≤◌, length}
use Rattle.t1_font.specs.OwnedKeys.{key_of}
use Rattle.t1_charstrings.specs.Beside.{bare_length}
use Rattle.t1_charstrings.specs.Kept.{charstring_at}
use Rattle.t1_charstrings.proofs.KeySums.{all_lines}
use Rattle.t1_charstrings.proofs.edited_lines.gone_len.Goals as goal

pub returns : goal.returns
returns c =
    let past : length c.args.gone.now ≤ c.loop-entry.entry-index = search rules in
    all_lines (bare_length (charstring_at c.args.charstrings.now) c.args.operator.now) key_of c.args.gone.now c.loop-entry.entry-index c.loop-entry.total past c.loop-entry.invariant.1
