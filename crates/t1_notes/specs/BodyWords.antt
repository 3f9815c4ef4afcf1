-- What the words of bodies leave: values, and a path.
use Rattle.std.specs.Prelude.{ℕ, Bool, false, ◌||◌, ◌&&◌, nat_lt, if◌then◌else◌, Option, Some, None, is_none, List, [], ◌∷◌, ◌++◌, codes, length, map}
use Rattle.std.specs.List.{before_first, list_any, take_while}
use Rattle.std.specs.Str.{bytes_eq}
use Rattle.std.specs.Str.Parse.{starts_with_minus}
use Rattle.t1_frac.specs.Numbers.{digits_of_word, is_number_word}
use Rattle.t1_text.specs.Names.{decimal_of, up_to}
use Rattle.t1_code.specs.Words.{operator_named}
use Rattle.t1_code.specs.declared.command.Command.{Command}
use Rattle.t1_run.specs.Operands.{takes}
use Rattle.t1_run.specs.Words.{draws}
use Rattle.t1_notes.specs.declared.line.Line.{Line}
use Rattle.t1_notes.specs.declared.note.Note.{Note}
use Rattle.t1_notes.specs.declared.note.NoteKind.{NoteKind}
use Rattle.t1_notes.specs.declared.note.NoteKind.TheVariants.{ValuesLeft, WideCoordinate, NegativeWidth, OpenPath}
use Rattle.t1_notes.specs.CommandWords.{clears, is_hsbw, wants_closed, ends_path, passes}
use Rattle.t1_notes.specs.PlacedTokens.{PlacedToken, placed_tokens}
use Rattle.t1_notes.specs.Told.{told}

-- profile, notes: the number words right before a place, the nearest first, by all tokens before it
abbrev pub numbers_before : List PlacedToken → List (List ℕ)
numbers_before before = map (λ t. t.token) (take_while (λ t. is_number_word t.token) before)

-- profile, notes: a brace, at which a body begins or ends
abbrev pub is_brace_token : List ℕ → Bool
is_brace_token t = bytes_eq t (codes "{") || bytes_eq t (codes "}")

-- profile, notes: whether what was drawn before a token doesn't count after it
abbrev pub ends_path_at : List ℕ → Bool
ends_path_at t = is_brace_token t || passes ends_path (operator_named t)

-- profile, notes: whether a path is open at a place: of the tokens since the nearest that ends one, one draws
abbrev pub is_open : List PlacedToken → Bool
is_open before = list_any (λ t. passes draws (operator_named t.token)) (before_first (λ t. ends_path_at t.token) before)

-- profile, notes: whether the size of a number word is past a limit
abbrev pub is_past : ℕ → List ℕ → Bool
is_past limit word = is_none (up_to limit (decimal_of (digits_of_word word)))

-- profile, notes: whether a number word is below 0
abbrev pub is_below_zero : List ℕ → Bool
is_below_zero word = starts_with_minus word && is_past 0 word

-- profile, notes: whether the nearest of some number words is below 0
abbrev pub nearest_is_below_zero : List (List ℕ) → Bool
nearest_is_below_zero [] = false
nearest_is_below_zero (word ∷ words) = is_below_zero word

-- profile, notes: a note, where there is reason for it
abbrev pub note_where : Bool → Note → List Note
note_where holds note = if holds then note ∷ [] else []

-- profile, notes: a note of a kind at a place
abbrev pub note_at : ℕ → ℕ → NoteKind → Note
note_at line column kind = record { kind = kind; line = line; column = column }

-- profile, notes: the notes on a command, by the number words right before it and whether a path is open there
abbrev pub command_notes : PlacedToken → List (List ℕ) → Bool → Option Command → List Note
command_notes t numbers path None = []
command_notes t numbers path (Some c) =
    note_where (clears c && nat_lt (takes c) (length numbers)) (note_at t.line t.column ValuesLeft)
    ++ (note_where (clears c && list_any (is_past 16000) numbers) (note_at t.line t.column WideCoordinate)
    ++ (note_where (is_hsbw c && nearest_is_below_zero numbers) (note_at t.line t.column NegativeWidth)
    ++ note_where (wants_closed c && path) (note_at t.line t.column OpenPath)))

-- profile, notes: the notes on a token, by those before it, the nearest first
abbrev pub token_notes : List PlacedToken → PlacedToken → List Note
token_notes before t = command_notes t (numbers_before before) (is_open before) (operator_named t.token)

-- profile, notes: the notes on the tokens of some lines
abbrev pub body_notes : List Line → List Note
body_notes ls = told token_notes [] (placed_tokens ls)
