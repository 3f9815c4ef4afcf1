-- The bodies of a font while its glyphs are run one after another.
use Rattle.std.specs.Prelude.{ℕ, List, [], ◌∷◌, Option, None, Some, Result, Ok, Err, if◌then◌else◌}
use Rattle.std.specs.Str.{bytes_eq}
use Rattle.t1_frac.specs.declared.fault.Code.{Code}
use Rattle.t1_parts.specs.declared.item.Item.{Item}
use Rattle.t1_parts.specs.declared.item.Item.TheVariants as items
use Rattle.t1_code.specs.declared.command.Command.{Command}
use Rattle.t1_code.specs.Words.{commands}
use Rattle.t1_run.specs.Run.{FontBodies, font}
use Rattle.t1_font.specs.Bodies.{subr_among}

-- profile: what is run of words: their commands; no commands where the words have a fault, which is reported before any fault
-- of a run
abbrev pub commands_or_none : Result (List Command) Code → List Command
commands_or_none (Ok body) = body
commands_or_none (Err code) = []

-- profile: what is run of the first glyph of this name
abbrev pub glyph_to_run : List Item → List ℕ → Option (List Command)
glyph_to_run [] g = None
glyph_to_run (items.Plain line ∷ rest) g = glyph_to_run rest g
glyph_to_run (items.Section before count after ∷ rest) g = glyph_to_run rest g
glyph_to_run (items.Subr number words closing ∷ rest) g = glyph_to_run rest g
glyph_to_run (items.Glyph name words closing ∷ rest) g = if bytes_eq g name then Some (commands_or_none (commands words)) else glyph_to_run rest g

-- profile: the font of the items while their glyphs are run
abbrev pub font_to_run : List Item → FontBodies
font_to_run all = font (subr_among all) (glyph_to_run all)
