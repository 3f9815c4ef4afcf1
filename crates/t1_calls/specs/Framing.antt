-- The texts of a call, and the input that they stand for.
use Rattle.std.specs.Prelude.{ℕ, Bool, not, ◌==◌, ◌&&◌, if◌then◌else◌, List, [], ◌∷◌, ◌++◌, codes, length}
use Rattle.std.specs.List.{list_all}
use Rattle.t1_frac.specs.Ascii.{line_feed}
use Rattle.t1_frac.specs.Words.{words}
use Rattle.t1_text.specs.Lines.{is_line, joined, lines}
use Rattle.t1_commands.specs.declared.command.SessionCommand.{SessionCommand}
use Rattle.t1_commands.specs.Commands.{alone, body_command, ends_body, takes_body}

-- profile, session commands: no line of the text is `.`, apart from blanks, which would end a body
abbrev pub is_body : List ℕ → Bool
is_body text = list_all (λ l. not (ends_body l)) (lines text)

-- profile, session commands: the texts of a call are one command's: a line without its end, and a body where the line takes
-- one; else the body is empty
abbrev pub is_call : List ℕ → List ℕ → Bool
is_call line body = if takes_body (words line) then is_line line && is_body body else is_line line && (length body == 0)

-- profile, session input: the texts of a call as input: the line, and where it takes a body the lines of that, each with
-- LF, and the line that ends it
abbrev pub framed : List ℕ → List ℕ → List ℕ
framed line body =
    if takes_body (words line) then line ++ line_feed ∷ (joined (lines body) ++ (codes "." ++ line_feed ∷ [])) else line ++ line_feed ∷ []

-- profile, session commands: the command of a call's texts: none where its line has no words
abbrev pub call_commands : List ℕ → List ℕ → List SessionCommand
call_commands line body = if takes_body (words line) then body_command (words line) (joined (lines body)) ∷ [] else alone (words line)
