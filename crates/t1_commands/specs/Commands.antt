-- The commands that the lines of a session spell.
use Rattle.std.specs.Prelude.{unwrap_or, ℕ, ℤ, pos, ◌-◌, ◌^◌, Bool, true, false, ◌&&◌, ◌||◌, if◌then◌else◌, List, [], ◌∷◌, ◌++◌, Option, Some, None, codes}
use Rattle.std.specs.Str.{bytes_eq}
use Rattle.t1_frac.specs.Ascii.{line_feed}
use Rattle.t1_frac.specs.Words.{words}
use Rattle.t1_text.specs.Lines.{unified}
use Rattle.t1_frac.specs.Numbers.{number_word}
use Rattle.t1_source.specs.declared.edit.Edit.{Edit}
use Rattle.t1_source.specs.declared.edit.Edit.TheVariants.{ReplaceGlyph, AddGlyph, RemoveGlyph, ReplaceSubr, AddSubr, RemoveSubr, Encode, Unencode, LenIv, Kern, Unkern}
use Rattle.t1_source.specs.declared.edit.Rule.TheVariants.{E7, E8}
use Rattle.t1_commands.specs.Lines.{finished_lines}
use Rattle.t1_commands.specs.declared.print.Print.TheVariants as prints
use Rattle.t1_commands.specs.declared.show.Show.TheVariants as shows
use Rattle.t1_commands.specs.declared.command.SessionCommand.{SessionCommand}
use Rattle.t1_commands.specs.declared.command.SessionCommand.TheVariants as commands

-- profile, session commands: a command whose body is being read: the line that opened it, and its body so far
pub record OpenCommand : Type 0 where
  pub heading : List ℕ
  pub body : List ℕ

-- profile, session commands: the number of a word, and one past every range for a word that isn't a number or doesn't fit
unfoldable pub number_of : List ℕ → ℤ
number_of word = unwrap_or (number_word word) (pos (2 ^ 63 - 1))

-- profile, session commands: the only word
abbrev pub one_word : List (List ℕ) → Option (List ℕ)
one_word (a ∷ []) = Some a
one_word _ = None

-- profile, session commands: the only two words
abbrev pub two_words : List (List ℕ) → Option (List ℕ × List ℕ)
two_words (a ∷ b ∷ []) = Some (a, b)
two_words _ = None

-- profile, session commands: the only three words
abbrev pub three_words : List (List ℕ) → Option (List ℕ × List ℕ × List ℕ)
three_words (a ∷ b ∷ c ∷ []) = Some (a, b, c)
three_words _ = None

-- profile, edit rules: E8, an unknown command or a wrong number of words
abbrev pub unknown : SessionCommand
unknown = commands.Broken E8

-- profile, session commands: the edit of these words, where they are as many as it takes
abbrev pub edit_of : {X : Type 0} → (X → Edit) → Option X → SessionCommand
edit_of f None = unknown
edit_of f (Some x) = commands.Edit (f x)

-- profile, session commands: `remove glyph NAME`, `remove subr N`
unfoldable pub removal : List (List ℕ) → SessionCommand
removal [] = unknown
removal (kind ∷ rest) =
    if bytes_eq kind (codes "glyph") then edit_of RemoveGlyph (one_word rest)
    else if bytes_eq kind (codes "subr") then edit_of (λ n. RemoveSubr (number_of n)) (one_word rest)
    else unknown

-- profile, session commands: `set leniv N`
unfoldable pub setting : List (List ℕ) → SessionCommand
setting [] = unknown
setting (kind ∷ rest) = if bytes_eq kind (codes "leniv") then edit_of (λ n. LenIv (number_of n)) (one_word rest) else unknown

-- profile, session commands: `print source`, `print kern`, `print pfb`, `print pfa`, `print afm`, `print uses`
unfoldable pub whole_print : List ℕ → SessionCommand
whole_print word =
    if bytes_eq word (codes "source") then commands.Print prints.Source
    else if bytes_eq word (codes "kern") then commands.Print prints.Kern
    else if bytes_eq word (codes "pfb") then commands.Print prints.Pfb
    else if bytes_eq word (codes "pfa") then commands.Print prints.Pfa
    else if bytes_eq word (codes "afm") then commands.Print prints.Afm
    else if bytes_eq word (codes "uses") then commands.Print prints.Uses
    else unknown

-- profile, session commands: `print pfb N`
unfoldable pub blocks_print : Option (List ℕ × List ℕ) → SessionCommand
blocks_print None = unknown
blocks_print (Some w) = if bytes_eq w.0 (codes "pfb") then commands.Print (prints.Blocks (number_of w.1)) else unknown

-- profile, session commands: the print of one word, else that of two
abbrev pub print_by : Option (List ℕ) → Option (List ℕ × List ℕ) → SessionCommand
print_by (Some word) two = whole_print word
print_by None two = blocks_print two

-- profile, session commands: a print has one word or two
abbrev pub print_of : List (List ℕ) → SessionCommand
print_of rest = print_by (one_word rest) (two_words rest)

-- profile, session commands: `show encoding`, `show refusal`
unfoldable pub whole_show : List ℕ → SessionCommand
whole_show word =
    if bytes_eq word (codes "encoding") then commands.Show shows.Encoding
    else if bytes_eq word (codes "refusal") then commands.Show shows.Refusal
    else unknown

-- profile, session commands: `show glyph NAME`, `show subr N`, `show metrics NAME`, `show outline NAME`
unfoldable pub entry_show : Option (List ℕ × List ℕ) → SessionCommand
entry_show None = unknown
entry_show (Some w) =
    if bytes_eq w.0 (codes "glyph") then commands.Show (shows.Glyph w.1)
    else if bytes_eq w.0 (codes "subr") then commands.Show (shows.Subr (number_of w.1))
    else if bytes_eq w.0 (codes "metrics") then commands.Show (shows.Metrics w.1)
    else if bytes_eq w.0 (codes "outline") then commands.Show (shows.Outline w.1)
    else unknown

-- profile, session commands: the query of one word, else that of two
abbrev pub show_by : Option (List ℕ) → Option (List ℕ × List ℕ) → SessionCommand
show_by (Some word) two = whole_show word
show_by None two = entry_show two

-- profile, session commands: a query has one word or two
abbrev pub show_of : List (List ℕ) → SessionCommand
show_of rest = show_by (one_word rest) (two_words rest)

-- profile, session commands: `begin`, `commit`, `abort`, without further words
abbrev pub lone : SessionCommand → List (List ℕ) → SessionCommand
lone command [] = command
lone command (word ∷ rest) = unknown

-- profile, session commands: those that are no edits and no queries, by the first word
unfoldable pub other_command : List ℕ → List (List ℕ) → SessionCommand
other_command verb rest =
    if bytes_eq verb (codes "print") then print_of rest
    else if bytes_eq verb (codes "begin") then lone commands.Begin rest
    else if bytes_eq verb (codes "commit") then lone commands.Commit rest
    else if bytes_eq verb (codes "abort") then lone commands.Abort rest
    else unknown

-- profile, session commands: those that take no body
unfoldable pub line_command : List (List ℕ) → SessionCommand
line_command [] = unknown
line_command (verb ∷ rest) =
    if bytes_eq verb (codes "remove") then removal rest
    else if bytes_eq verb (codes "encode") then edit_of (λ w. Encode (number_of w.0) w.1) (two_words rest)
    else if bytes_eq verb (codes "unencode") then edit_of (λ code. Unencode (number_of code)) (one_word rest)
    else if bytes_eq verb (codes "set") then setting rest
    else if bytes_eq verb (codes "kern") then edit_of (λ w. Kern w.0 w.1 (number_of w.2)) (three_words rest)
    else if bytes_eq verb (codes "unkern") then edit_of (λ w. Unkern w.0 w.1) (two_words rest)
    else if bytes_eq verb (codes "show") then show_of rest
    else other_command verb rest

-- profile, session commands: `replace glyph NAME`, `replace subr N`, `add glyph NAME`, `add subr N`, with their body
unfoldable pub bodied_edit : List ℕ × List ℕ × List ℕ → List ℕ → Edit
bodied_edit w body =
    if bytes_eq w.1 (codes "glyph")
    then (if bytes_eq w.0 (codes "replace") then ReplaceGlyph w.2 body else AddGlyph w.2 body)
    else (if bytes_eq w.0 (codes "replace") then ReplaceSubr (number_of w.2) body else AddSubr (number_of w.2) body)

-- profile, session commands: a command with its whole body
unfoldable pub body_command : List (List ℕ) → List ℕ → SessionCommand
body_command heading body = edit_of (λ w. bodied_edit w body) (three_words heading)

-- profile, edit rules: E7, the input ended inside a body; it comes after E8
abbrev pub left_open : Option (List ℕ × List ℕ × List ℕ) → SessionCommand
left_open None = unknown
left_open (Some w) = commands.Broken E7

-- profile, edit rules: what a command becomes whose body the input leaves open
unfoldable pub open_command : List (List ℕ) → SessionCommand
open_command heading = left_open (three_words heading)

-- profile, session commands: a line takes a body by its first two words, whatever follows
unfoldable pub takes_body : List (List ℕ) → Bool
takes_body (verb ∷ kind ∷ rest) =
    (bytes_eq verb (codes "replace") || bytes_eq verb (codes "add")) && (bytes_eq kind (codes "glyph") || bytes_eq kind (codes "subr"))
takes_body _ = false

-- profile, session commands: a line that is `.`, apart from blanks, ends a body
abbrev pub is_dot : Option (List ℕ) → Bool
is_dot None = false
is_dot (Some word) = bytes_eq word (codes ".")

-- profile, session commands: whether a line ends a body
unfoldable pub ends_body : List ℕ → Bool
ends_body line = is_dot (one_word (words line))

-- profile, session commands: a line without words is skipped
abbrev pub is_wordless : List (List ℕ) → Bool
is_wordless [] = true
is_wordless (word ∷ rest) = false

-- profile, session commands: the command of a line that takes no body
abbrev pub alone : List (List ℕ) → List SessionCommand
alone line = if is_wordless line then [] else line_command line ∷ []

-- profile, session commands: the commands of the lines, where the body of an opened one comes first; once the input has
-- ended, a body that it leaves open makes a command too
abbrev pub commands_of : Bool → Option OpenCommand → List (List ℕ) → List SessionCommand
commands_of ended None [] = []
commands_of ended (Some o) [] = if ended then open_command (words o.heading) ∷ [] else []
commands_of ended None (line ∷ lines) =
    if takes_body (words line) then commands_of ended (Some (record { heading = line; body = [] })) lines
    else alone (words line) ++ commands_of ended None lines
commands_of ended (Some o) (line ∷ lines) =
    if ends_body line then body_command (words o.heading) o.body ∷ commands_of ended None lines
    else commands_of ended (Some (record { heading = o.heading; body = o.body ++ line ++ line_feed ∷ [] })) lines

-- profile, session commands: the commands of an input; once it has ended, those of all its lines and of a body that it
-- leaves open, until then those of the lines that have their end
abbrev pub input_commands : Bool → List ℕ → List SessionCommand
input_commands ended input = commands_of ended None (finished_lines ended (unified input))
