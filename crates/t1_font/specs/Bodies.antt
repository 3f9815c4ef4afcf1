-- The bodies of a source, compiled.
use Rattle.std.specs.Prelude.{ℕ, ◌==◌, if◌then◌else◌, List, [], ◌∷◌, Option, None, Result, Ok}
use Rattle.std.specs.Option.{option_or}
use Rattle.std.specs.Result.{result_ok}
use Rattle.std.specs.Str.{bytes_eq}
use Rattle.t1_frac.specs.declared.fault.Fault.{Fault}
use Rattle.t1_frac.specs.declared.fault.Place.{Place}
use Rattle.t1_frac.specs.declared.fault.Place.TheVariants as places
use Rattle.t1_frac.specs.Outcome.{reported_at, ◌>>=◌}
use Rattle.t1_parts.specs.declared.item.Item.{Item}
use Rattle.t1_parts.specs.declared.item.Item.TheVariants.{Subr, Glyph}
use Rattle.t1_code.specs.declared.command.Command.{Command}
use Rattle.t1_code.specs.Words.{commands}
use Rattle.t1_run.specs.Run.{FontBodies, font}

-- profile: the item's body, where it is the Subr of this number and its words are commands
abbrev pub subr_in : Item → ℕ → Option (List Command)
subr_in (Subr number words closing) n = if n == number then result_ok (commands words) else None
subr_in _ n = None

-- profile: the item's body, where it is the glyph of this name and its words are commands
abbrev pub glyph_in : Item → List ℕ → Option (List Command)
glyph_in (Glyph name words closing) g = if bytes_eq g name then result_ok (commands words) else None
glyph_in _ g = None

-- profile: the body of the first Subr of this number
abbrev pub subr_among : List Item → ℕ → Option (List Command)
subr_among [] n = None
subr_among (item ∷ items) n = option_or (subr_in item n) (subr_among items n)

-- profile: the body of the first glyph of this name
abbrev pub glyph_among : List Item → List ℕ → Option (List Command)
glyph_among [] g = None
glyph_among (item ∷ items) g = option_or (glyph_in item g) (glyph_among items g)

-- profile: the bodies of the entries of a private part
abbrev pub bodies : List Item → FontBodies
bodies items = font (subr_among items) (glyph_among items)

-- ---- their first fault

-- profile: words are commands, or have their fault at this place
unfoldable pub words_check : Place → List (List ℕ) → Result (Unit {0}) Fault
words_check place words = reported_at place (commands words) >>= λ _. Ok tt

-- profile: the fault of an item's body, at its entry, where it has one
abbrev pub body_check : Item → Result (Unit {0}) Fault
body_check (Subr number words closing) = words_check (places.Subr number) words
body_check (Glyph name words closing) = words_check (places.Glyph name) words
body_check _ = Ok tt

-- profile: the first fault of a body, at its entry
abbrev pub bodies_check : List Item → Result (Unit {0}) Fault
bodies_check [] = Ok tt
bodies_check (item ∷ items) = body_check item >>= λ _. bodies_check items
