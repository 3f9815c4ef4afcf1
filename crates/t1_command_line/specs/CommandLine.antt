-- What the words of the command line are read by.
use Rattle.std.specs.Prelude.{ℕ, List, [], ◌∷◌, true, false, Some, codes}
use Rattle.clap.specs.Words.{App, Rule, Shape, new_rule}
use Rattle.clap.specs.Simple.{new_shape}
use Rattle.clap.specs.declared.builder.action.ArgAction.TheVariants.{Append, Set, SetTrue}

-- profile: the source, which must be there
abbrev pub source : Rule
source = record (new_rule (codes "SOURCE")) { action = Some Set; required = true }

-- profile: the sources, of which one must be there
abbrev pub sources : Rule
sources = record (new_rule (codes "SOURCE")) { action = Some Append; required = true }

-- profile: --font, by which the source is a font's file
abbrev pub as_font : Rule
as_font = record (new_rule (codes "font")) { long = Some (codes "font"); action = Some SetTrue }

-- profile: the font's file, which must be there
abbrev pub font_rule : Rule
font_rule = record (new_rule (codes "FONT")) { action = Some Set; required = true }

-- profile: --kern FILE
abbrev pub kern_rule : Rule
kern_rule = record (new_rule (codes "kern")) { long = Some (codes "kern"); action = Some Set; value_names = 1 }

-- profile: --json, by which each fault is an object of JSON
abbrev pub json : Rule
json = record (new_rule (codes "json")) { long = Some (codes "json"); action = Some SetTrue }

-- profile: --strict, by which notes are faults
abbrev pub strict : Rule
strict = record (new_rule (codes "strict")) { long = Some (codes "strict"); action = Some SetTrue }

-- profile: -o FILE, --output FILE
abbrev pub output : Rule
output =
    record (new_rule (codes "output")) { short = Some 111; long = Some (codes "output"); action = Some Set; value_names = 1 }

-- profile: -l N, --block N, which doesn't go with --pfa
abbrev pub block_rule : Rule
block_rule =
    record (new_rule (codes "block")) {
      short = Some 108;
      long = Some (codes "block");
      action = Some Set;
      value_names = 1;
      is_free = false;
    }

-- profile: -a, --pfa
abbrev pub pfa_rule : Rule
pfa_rule = record (new_rule (codes "pfa")) { short = Some 97; long = Some (codes "pfa"); action = Some SetTrue }

-- profile: what is to be explained
abbrev pub code : Rule
code = record (new_rule (codes "CODE")) { action = Some Set }

-- profile: the place that stands after a code: two words
abbrev pub place : Rule
place = record (new_rule (codes "PLACE")) { action = Some Set; value_names = 2 }

-- profile: a command that takes these arguments
abbrev pub taking : List ℕ → List Rule → Shape
taking name rules = record (new_shape name) { rules = rules }

-- profile: assemble, which takes a block length or a form, an output and the source or a font
abbrev pub assemble : Shape
assemble = taking (codes "assemble") (block_rule ∷ pfa_rule ∷ as_font ∷ output ∷ source ∷ [])

-- profile: disassemble, which takes an output and the font's file
abbrev pub disassemble : Shape
disassemble = taking (codes "disassemble") (output ∷ font_rule ∷ [])

-- profile: measure, which takes kerning, an output and the source or a font
abbrev pub measure : Shape
measure = taking (codes "measure") (kern_rule ∷ as_font ∷ output ∷ source ∷ [])

-- profile: check, which takes kerning, and sources or fonts
abbrev pub check_shape : Shape
check_shape = taking (codes "check") (kern_rule ∷ as_font ∷ sources ∷ [])

-- profile: faults, which takes its form, kerning, and sources or fonts
abbrev pub faults : Shape
faults = taking (codes "faults") (json ∷ kern_rule ∷ as_font ∷ sources ∷ [])

-- profile: notes, which takes whether there must be none, kerning, and sources or fonts
abbrev pub notes_shape : Shape
notes_shape = taking (codes "notes") (strict ∷ kern_rule ∷ as_font ∷ sources ∷ [])

-- profile: session, which takes kerning, and the source or a font
abbrev pub session : Shape
session = taking (codes "session") (kern_rule ∷ as_font ∷ source ∷ [])

-- profile: explain, which takes what is to be explained, and a place after it
abbrev pub explain : Shape
explain = taking (codes "explain") (code ∷ place ∷ [])

-- word: the program before its commands, of which one must be named
abbrev pub program_alone : App
program_alone = record { top = record (new_shape (codes "t1edit")) { has_version = true; subcommand_required = true }; subs = [] }

-- profile: the program, of which a command must be named
abbrev pub program : App
program =
    record {
      top = record (new_shape (codes "t1edit")) { is_leaf = false; has_version = true; subcommand_required = true };
      subs = assemble ∷ disassemble ∷ measure ∷ check_shape ∷ faults ∷ notes_shape ∷ session ∷ explain ∷ [];
    }

-- profile: a command without commands of its own
abbrev pub without_commands : Shape → App
without_commands shape = record { top = shape; subs = [] }
