-- The bodies that are run to find faults.
use Rattle.std.specs.Prelude.{ℕ, if◌then◌else◌, List, Option, None, Some}
use Rattle.std.specs.Str.{bytes_eq}
use Rattle.t1_parts.specs.declared.item.Item.{Item}
use Rattle.t1_parts.specs.declared.item.Item.TheVariants.{Glyph}
use Rattle.t1_code.specs.declared.command.Command.{Command}
use Rattle.t1_code.specs.Words.{commands}
use Rattle.t1_font.specs.ToRun.{commands_or_none}

-- word: what is run of an item, where it is the glyph of this name
abbrev pub glyph_run_in : Item → List ℕ → Option (List Command)
glyph_run_in (Glyph name words closing) g = if bytes_eq g name then Some (commands_or_none (commands words)) else None
glyph_run_in _ g = None
